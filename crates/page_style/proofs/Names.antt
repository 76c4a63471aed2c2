-- Names as texts, and their places among masters.
use Rattle.std.proofs.Common.{◌≡◌, ◌≢◌, ℕ, ◌+◌, ◌<◌, ◌==◌, nat_lt, Bool, true, false, cond, not, List, [], ◌∷◌, map, length, get_or, refl, sym, ap, ◌∙◌, arith, codes, Option, Some, None, IfNone, zero, suc, ◌⊎◌, inl, inr, subst}
use Rattle.std.specs.List.{AllByRecursion as Each, Any, position_or_len, slice_get}
use Rattle.std.specs.Option.{option_map_or}
use Rattle.std.specs.Str.{bytes_eq, IsUtf8, encode_utf8_all, chars}
use Rattle.std.proofs.lemmas.Bool.{lt-ltb, ltb-true}
use Rattle.std.proofs.lemmas.Bool.Decides.{same_from_decides, Decides-like}
use Rattle.std.proofs.lemmas.Option.{slice_get_cases}
use Rattle.std.proofs.lemmas.Slice.Eq.{bytes_eq-Decides}
use Rattle.std.proofs.lemmas.Str.{encodes-chars}
use Rattle.doc_model.specs.declared.page_layout.Master.{Master}
use Rattle.doc_model.specs.Valid.{IsNoneOrGiven}
use Rattle.style_model.specs.Masters.{place_of_master, first_master, next_master, AreMastersThere}

-- two texts are the same where their characters are
pub same_as_characters : (xs ys : List ℕ) → IsUtf8 xs → IsUtf8 ys → bytes_eq xs ys ≡ bytes_eq (chars xs) (chars ys)
same_as_characters xs ys u v = same_from_decides (bytes_eq xs ys) (bytes_eq (chars xs) (chars ys)) (bytes_eq-Decides xs ys)
    (Decides-like (bytes_eq (chars xs) (chars ys)) (λ e. sym (encodes-chars xs u) ∙ ap encode_utf8_all e ∙ encodes-chars ys v) (λ e. ap chars e) (bytes_eq-Decides (chars xs) (chars ys)))

standard : chars (codes "Standard") ≡ codes "Standard"
unfolding chars
standard = refl

pub first_named : (masters : List Master) (found : Option ℕ) (place : ℕ) → found ≡ place_of_master masters (chars (codes "Standard")) → found ≡ Some place
    → Some place ≡ first_master masters
first_named [] found place e is = cc
first_named (master ∷ masters) found place e is =
    ap (λ o. option_map_or (λ p. Some p) o (Some 0)) (sym is ∙ e ∙ ap (λ name. place_of_master (master ∷ masters) name) standard)

pub first_of_all : (masters : List Master) (found : Option ℕ) → (length masters == 0) ≡ false → found ≡ place_of_master masters (chars (codes "Standard")) → found ≡ None
    → Some 0 ≡ first_master masters
first_of_all [] found some e is = cc
first_of_all (master ∷ masters) found some e is =
    ap (λ o. option_map_or (λ p. Some p) o (Some 0)) (sym is ∙ e ∙ ap (λ name. place_of_master (master ∷ masters) name) standard)

empty_list : {X : Type 0} (xs : List X) → length xs ≡ 0 → xs ≡ []
empty_list [] h = refl
empty_list (x ∷ xs) h = absurd (omega (arith, h))

pub empty_text : (text name : List ℕ) → chars text ≡ name → length text ≡ 0 → name ≡ []
unfolding chars
empty_text text name e h = sym e ∙ ap chars (empty_list text h)

pub some_text : (text name : List ℕ) → IsUtf8 text → chars text ≡ name → length text ≢ 0 → name ≢ []
some_text text name u e h = λ none. h (ap length (sym (encodes-chars text u) ∙ ap encode_utf8_all (e ∙ none)))

pub itself : (masters : List Master) (place : ℕ) (master : Master) → slice_get masters place ≡ Some master → master.next ≡ [] → Some place ≡ next_master masters (Some place)
itself masters place master e none = rw (e, none) refl

pub named : (masters : List Master) (place : ℕ) (master : Master) → slice_get masters place ≡ Some master → master.next ≢ []
    → place_of_master masters master.next ≡ next_master masters (Some place)
named masters place master e some = rw e (by_name master.next some) where
  by_name : (name : List ℕ) → name ≢ [] → place_of_master masters name ≡ elim name as (λ _. Option ℕ) [ [] ↦ Some place | letter ∷ letters ↦ place_of_master masters (letter ∷ letters) ]
  by_name [] h = absurd (h refl)
  by_name (letter ∷ letters) h = refl

each_at : {X : Type 0} (P : X → Type 0) (xs : List X) (i : ℕ) (x : X) → Each P xs → slice_get xs i ≡ Some x → P x
each_at P [] i x h e = absurd (cc)
each_at P (y ∷ ys) zero x h e = let same : y ≡ x = cc in subst P same h.0
each_at P (y ∷ ys) (suc i) x h e = each_at P ys i x h.1 e

-- a test that passes somewhere finds a place
finds : {X : Type 0} (t : X → Bool) (xs : List X) (i : ℕ) (x : X) → slice_get xs i ≡ Some x → t x ≡ true → nat_lt (position_or_len t xs) (length xs) ≡ true
finds t [] i x e h = absurd (cc)
finds t (y ∷ ys) zero x e h = let passes : t y ≡ true = (let same : y ≡ x = cc in ap t same ∙ h) in
    ap (λ b. nat_lt (cond (not b) (1 + position_or_len t ys) 0) (suc (length ys))) passes ∙ lt-ltb 0 (suc (length ys)) (omega arith)
finds t (y ∷ ys) (suc i) x e h = by_test (finds t ys i x e h) (t y) where
  by_test : nat_lt (position_or_len t ys) (length ys) ≡ true → (b : Bool) → nat_lt (cond (not b) (1 + position_or_len t ys) 0) (suc (length ys)) ≡ true
  by_test more true = lt-ltb 0 (suc (length ys)) (omega arith)
  by_test more false = lt-ltb _ _ (let below : position_or_len t ys < length ys = ltb-true _ _ more in omega arith)

get_mapped : (masters : List Master) (i : ℕ) (name : List ℕ) → i < length (map (λ master. master.name) masters) → get_or (map (λ master. master.name) masters) i name ≡ name
    → (master : Master) × (slice_get masters i ≡ Some master) × (master.name ≡ name)
get_mapped [] i name h e = absurd (omega (arith, h))
get_mapped (master ∷ masters) zero name h e = (master, refl, e)
get_mapped (master ∷ masters) (suc i) name h e = get_mapped masters i name (omega arith) e

found : (masters : List Master) (name : List ℕ) → Any (λ other. other ≡ name) (map (λ master. master.name) masters) → place_of_master masters name ≢ None
found masters name (i, other, inside, is, same) =
    let at = get_mapped masters i name inside (ap (λ n. get_or (map (λ master. master.name) masters) i n) (sym same) ∙ is ∙ same) in
    let passes : bytes_eq at.0.name name ≡ true = (bytes_eq-Decides at.0.name name).1 at.2 in
    let inside_too = finds (λ (master : Master). bytes_eq master.name name) masters i at.0 at.1 passes in
    λ none. (let some : place_of_master masters name ≡ Some (position_or_len (λ (master : Master). bytes_eq master.name name) masters) = ap (λ b. cond b (Some (position_or_len (λ (master : Master). bytes_eq master.name name) masters)) None) inside_too in cc)

empty_or_not : (name : List ℕ) → (name ≡ []) ⊎ (name ≢ [])
empty_or_not [] = inl refl
empty_or_not (letter ∷ letters) = inr (λ e. absurd (cc))

some_follows : (masters : List Master) (place : ℕ) (master : Master) → IsNoneOrGiven (map (λ other. other.name) masters) master.next → slice_get masters place ≡ Some master
    → next_master masters (Some place) ≡ None → ⊥
some_follows masters place master given e none = elim (empty_or_not master.next) [ inl empty ↦ (let same = itself masters place master e empty in cc) | inr some ↦ by_given given some ] where
  by_given : (master.next ≡ []) ⊎ Any (λ other. other ≡ master.next) (map (λ other. other.name) masters) → master.next ≢ [] → ⊥
  by_given (inl empty) some = some empty
  by_given (inr there) some = found masters master.next there (named masters place master e some ∙ none)

pub never_none : (masters : List Master) (place : ℕ) (said : Option ℕ) → AreMastersThere masters → place < length masters → said ≡ next_master masters (Some place) → IfNone said (masters ≡ [])
never_none masters place (Some next) there inside e = tt
never_none masters place None there inside e = elim (slice_get_cases masters place).1 [
  | inl (master, in_list, at, is) ↦ absurd (some_follows masters place master (each_at (λ one. IsNoneOrGiven (map (λ other. other.name) masters) one.next) masters place master there at) at (sym e))
  | inr past ↦ absurd (omega (arith, past.0, inside))
]
