-- An index goes on to agree with a list as names are added to both.
use Rattle.std.proofs.Common.{◌≡◌, ◌≢◌, ℕ, List, [], ◌∷◌, ◌++◌, refl, sym, ap, subst, ◌∙◌, append-nil, append_assoc, Some, None}
use Rattle.doc_model.specs.declared.paragraph.ParId.{ParId}
use Rattle.name_index.specs.declared.names.NameKind.{NameKind}
use Rattle.name_index.specs.declared.names.Named.{Named}
use Rattle.name_index.specs.Names.{found, Agree, Sets, of_kind}
use Rattle.name_index.specs.Scan.{given}
use Rattle.name_index.proofs.Changed.{added, repeated, followed}
use Rattle.text_state.specs.NamePlaces.{Follows}

-- nothing more
pub follows_none : (index : List Named) → Follows index index []
follows_none index names agree = subst (Agree index) (sym (append-nil names)) agree

-- some, and then others
pub follows_both : (first second third one other : List Named) → Follows first second one → Follows second third other → Follows first third (one ++ other)
follows_both first second third one other f g names agree = subst (Agree third) (append_assoc names one other) (g (names ++ one) (f names agree))

-- those that are given, joined
given_append : (some more : List (List ℕ × ParId)) → given (some ++ more) ≡ given some ++ given more
given_append [] more = refl
given_append (([], par) ∷ some) more = given_append some more
given_append ((letter ∷ letters, par) ∷ some) more = ap (λ rest. (letter ∷ letters, par) ∷ rest) (given_append some more)

kind_append : (kind : NameKind) (some more : List (List ℕ × ParId)) → of_kind kind (some ++ more) ≡ of_kind kind some ++ of_kind kind more
kind_append kind [] more = refl
kind_append kind (pair ∷ some) more = ap (λ rest. (record { kind = kind; name = pair.0; par = pair.1 }) ∷ rest) (kind_append kind some more)

-- one more of a kind
pub follows_more : (first second third : List Named) (kind : NameKind) (some : List (List ℕ × ParId)) (pair : List ℕ × ParId)
    → Follows first second (of_kind kind (given some)) → Follows second third (of_kind kind (given (pair ∷ []))) → Follows first third (of_kind kind (given (some ++ pair ∷ [])))
follows_more first second third kind some pair f g =
    subst (Follows first third) (sym (ap (of_kind kind) (given_append some (pair ∷ [])) ∙ kind_append kind (given some) (given (pair ∷ []))))
    (follows_both first second third (of_kind kind (given some)) (of_kind kind (given (pair ∷ []))) f g)

-- the empty name is none
pub empty_name : (index : List Named) (kind : NameKind) (name : List ℕ) (par : ParId) → name ≡ [] → Follows index index (of_kind kind (given ((name, par) ∷ [])))
empty_name index kind name par none = subst (λ (name : List ℕ). Follows index index (of_kind kind (given ((name, par) ∷ [])))) (sym none) (follows_none index)

-- a name that leads to a paragraph already
pub known_name : (index : List Named) (kind : NameKind) (name : List ℕ) (par there : ParId) → found index kind name ≡ Some there → Follows index index (of_kind kind (given ((name, par) ∷ [])))
known_name index kind [] par there known names agree other_kind other = follows_none index names agree other_kind other
known_name index kind (letter ∷ letters) par there known names agree other_kind other =
    agree other_kind other ∙ ap (λ names. found names other_kind other) (sym (append-nil names))
    ∙ repeated names [] (record { kind = kind; name = letter ∷ letters; par = par }) there (sym (agree kind (letter ∷ letters)) ∙ known) other_kind other

-- a name that leads nowhere yet
pub new_name : (index later : List Named) (kind : NameKind) (name : List ℕ) (par : ParId) → name ≢ [] → found index kind name ≡ None → Sets index later kind name (Some par)
    → Follows index later (of_kind kind (given ((name, par) ∷ [])))
new_name index later kind [] par given_name none sets names agree = absurd (given_name refl)
new_name index later kind (letter ∷ letters) par given_name none sets names agree =
    followed index later names (names ++ (record { kind = kind; name = letter ∷ letters; par = par }) ∷ []) kind (letter ∷ letters) (Some par) agree sets
    (subst (λ (old : List Named). Sets old (names ++ (record { kind = kind; name = letter ∷ letters; par = par }) ∷ []) kind (letter ∷ letters) (Some par)) (append-nil names)
    (added names [] (record { kind = kind; name = letter ∷ letters; par = par }) (ap (λ names. found names kind (letter ∷ letters)) (append-nil names) ∙ sym (agree kind (letter ∷ letters)) ∙ none)))

-- names of four kinds, one kind behind the other
pub all_four : (start first second third last bookmarks sections references notes : List Named) → start ≡ [] → Follows start first bookmarks → Follows first second sections
    → Follows second third references → Follows third last notes → Agree last (bookmarks ++ (sections ++ (references ++ notes)))
all_four start first second third last bookmarks sections references notes none b s r n =
    let none_yet : Agree start [] = λ kind name. ap (λ names. found names kind name) none in
    subst (Agree last) (append_assoc (bookmarks ++ sections) references notes ∙ append_assoc bookmarks sections (references ++ notes))
    (n ((bookmarks ++ sections) ++ references) (r (bookmarks ++ sections) (s bookmarks (b [] none_yet))))
