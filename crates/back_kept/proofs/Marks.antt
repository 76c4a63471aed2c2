-- Marks of bookmarks that are points, or have both ends in one text, are all kept.
use Rattle.std.proofs.Common.{◌≡◌, ◌⊎◌, ℕ, ◌==◌, ◌&&◌, ◌||◌, Bool, true, false, cond, List, [], ◌∷◌, ◌++◌, refl, sym, ap, ap₂, ◌∙◌, subst, append_assoc, append-nil, bytes_eq, inl, inr}
use Rattle.std.specs.List.{flat_map, filter, list_any, AllByRecursion as Each}
use Rattle.std.proofs.lemmas.Grind.{flat_map-append}
use Rattle.load_model.specs.Met.{Met, MetMark, MarkKind, Whole, Start, End, has_whole, is_complete, is_mark, is_partner, is_same_mark_kind, kept_marks, marks_met, new_marks}
use Rattle.back_kept.proofs.Apart.{at_own, filter_all, is_same, or_true, same_is, turned}

-- a mark without its name and place
pub record Seen : Type 0 where
  pub kind : MarkKind
  pub text : ℕ

abbrev pub seen_at : MarkKind → ℕ → Seen
seen_at kind text = record { kind = kind; text = text }

abbrev pub seen_of : List ℕ → MetMark → List Seen
seen_of name mark = cond (bytes_eq name mark.name) (seen_at mark.kind mark.text ∷ []) []

-- the marks of a name
abbrev pub seen : List ℕ → List MetMark → List Seen
seen name marks = flat_map (seen_of name) marks

-- a point, or both ends in one text
abbrev pub IsWhole : List Seen → Type 0
IsWhole all = (text : ℕ) × ((all ≡ seen_at Whole text ∷ []) ⊎ (all ≡ seen_at Start text ∷ seen_at End text ∷ []) ⊎ (all ≡ seen_at End text ∷ seen_at Start text ∷ []))

abbrev are_ends : MarkKind → MarkKind → Bool
are_ends Start End = true
are_ends End Start = true
are_ends _ _ = false

-- where a mark stands among those of its name
data Stands (front : List Seen) (one : Seen) (back : List Seen) : Type 0 where
  Alone : one.kind ≡ Whole → front ≡ [] → Stands front one back
  Before : (other : Seen) → are_ends one.kind other.kind ≡ true → other.text ≡ one.text → front ≡ [] → back ≡ other ∷ [] → Stands front one back
  Behind : (other : Seen) → are_ends one.kind other.kind ≡ true → other.text ≡ one.text → front ≡ other ∷ [] → Stands front one back

not_nil : {X : Type 0} (xs : List X) (y : X) (ys : List X) → xs ++ y ∷ ys ≡ [] → ⊥
not_nil [] y ys e = cc
not_nil (x ∷ xs) y ys e = cc

of_one : (front : List Seen) (one x : Seen) (back : List Seen) → front ++ one ∷ back ≡ x ∷ [] → (front ≡ []) × (one ≡ x)
of_one [] one x back e = (refl, cc)
of_one (f ∷ front) one x back e = let rest : front ++ one ∷ back ≡ [] = cc in absurd (not_nil front one back rest)

of_two : (front : List Seen) (one x y : Seen) (back : List Seen) → front ++ one ∷ back ≡ x ∷ y ∷ [] → ((front ≡ []) × (one ≡ x) × (back ≡ y ∷ [])) ⊎ ((front ≡ x ∷ []) × (one ≡ y))
of_two [] one x y back e = inl (refl, cc, cc)
of_two (f ∷ []) one x y back e = inr (cc, cc)
of_two (f ∷ g ∷ front) one x y back e = let rest : front ++ one ∷ back ≡ [] = cc in absurd (not_nil front one back rest)

both_ends : (front : List Seen) (one x y : Seen) (back : List Seen) → are_ends x.kind y.kind ≡ true → are_ends y.kind x.kind ≡ true → x.text ≡ y.text → front ++ one ∷ back ≡ x ∷ y ∷ [] → Stands front one back
both_ends front one x y back ends other_ends same e = elim (of_two front one x y back e) [
  | inl is ↦ Before y (ap (λ (s : Seen). are_ends s.kind y.kind) is.1 ∙ ends) (sym same ∙ sym (ap (λ (s : Seen). s.text) is.1)) is.0 is.2
  | inr is ↦ Behind x (ap (λ (s : Seen). are_ends s.kind x.kind) is.1 ∙ other_ends) (same ∙ sym (ap (λ (s : Seen). s.text) is.1)) is.0
]

stands : (front : List Seen) (one : Seen) (back : List Seen) → IsWhole (front ++ one ∷ back) → Stands front one back
stands front one back whole = elim whole.1 [
  | inl e ↦ (let is = of_one front one (seen_at Whole whole.0) back e in Alone (ap (λ (s : Seen). s.kind) is.1) is.0)
  | inr more ↦ elim more [
    | inl e ↦ both_ends front one (seen_at Start whole.0) (seen_at End whole.0) back refl refl refl e
    | inr e ↦ both_ends front one (seen_at End whole.0) (seen_at Start whole.0) back refl refl refl e
  ]
]

-- tests
and_true : (b : Bool) → (b && true) ≡ b
and_true true = refl
and_true false = refl

and_false : (b : Bool) → (b && false) ≡ false
and_false true = refl
and_false false = refl

none_any : {X : Type 0} (p : X → Bool) (xs : List X) → ((x : X) → p x ≡ false) → list_any p xs ≡ false
none_any p [] none = refl
none_any p (x ∷ xs) none = ap₂ (λ (a b : Bool). a || b) (none x) (none_any p xs none)

any_and : {X : Type 0} (p q : X → Bool) (xs : List X) → list_any p xs ≡ false → list_any (λ x. p x && q x) xs ≡ false
any_and p q [] e = refl
any_and p q (x ∷ xs) e = by_test (p x) refl (any_and p q xs) where
  by_test : (b : Bool) → p x ≡ b → (list_any p xs ≡ false → list_any (λ y. p y && q y) xs ≡ false) → list_any (λ y. p y && q y) (x ∷ xs) ≡ false
  by_test true is rest = absurd (elsewhere (sym (ap (λ (b : Bool). b || list_any p xs) is) ∙ e)) where
    elsewhere : true ≡ false → ⊥
    elsewhere h = cc
  by_test false is rest = ap (λ (b : Bool). (b && q x) || list_any (λ y. p y && q y) xs) is ∙ rest (sym (ap (λ (b : Bool). b || list_any p xs) is) ∙ e)

abbrev of_kind : MarkKind → Seen → Bool
of_kind kind one = is_same_mark_kind one.kind kind

any_kind : (kind : MarkKind) (name : List ℕ) (marks : List MetMark) → list_any (is_mark kind name) marks ≡ list_any (of_kind kind) (seen name marks)
any_kind kind name [] = refl
any_kind kind name (mark ∷ marks) =
    ap₂ (λ (b r : Bool). (is_same_mark_kind mark.kind kind && b) || r) (turned mark.name name) (any_kind kind name marks) ∙ by_test (bytes_eq name mark.name) where
      by_test : (b : Bool) → ((is_same_mark_kind mark.kind kind && b) || list_any (of_kind kind) (seen name marks)) ≡ list_any (of_kind kind) (cond b (seen_at mark.kind mark.text ∷ []) [] ++ seen name marks)
      by_test true = ap (λ (b : Bool). b || list_any (of_kind kind) (seen name marks)) (and_true (is_same_mark_kind mark.kind kind))
      by_test false = ap (λ (b : Bool). b || list_any (of_kind kind) (seen name marks)) (and_false (is_same_mark_kind mark.kind kind))

abbrev is_end_of : MetMark → Seen → Bool
is_end_of mark other = mark.text == other.text && are_ends mark.kind other.kind

any_partner : (mark : MetMark) (marks : List MetMark) → list_any (is_partner mark) marks ≡ list_any (is_end_of mark) (seen mark.name marks)
any_partner mark [] = refl
any_partner mark (other ∷ marks) = by_test (bytes_eq mark.name other.name) (any_partner mark marks) where
  by_test : (b : Bool) → list_any (is_partner mark) marks ≡ list_any (is_end_of mark) (seen mark.name marks)
      → ((b && mark.text == other.text && are_ends mark.kind other.kind) || list_any (is_partner mark) marks) ≡ list_any (is_end_of mark) (cond b (seen_at other.kind other.text ∷ []) [] ++ seen mark.name marks)
  by_test true rest = ap (λ (b : Bool). is_end_of mark (seen_at other.kind other.text) || b) rest
  by_test false rest = rest

-- no whole bookmark of the name stands before
no_whole : (name : List ℕ) (before : List MetMark) (front : List Seen) → seen name before ≡ front → list_any (of_kind Whole) front ≡ false
    → list_any (λ mark. is_mark Start name mark && list_any (is_partner mark) before) before ≡ false → has_whole name before ≡ false
no_whole name before front is whole ends = ap₂ (λ (a b : Bool). a || b) (any_kind Whole name before ∙ ap (list_any (of_kind Whole)) is ∙ whole) ends

no_start : (name : List ℕ) (before : List MetMark) (front : List Seen) → seen name before ≡ front → list_any (of_kind Start) front ≡ false
    → list_any (λ mark. is_mark Start name mark && list_any (is_partner mark) before) before ≡ false
no_start name before front is none = any_and (is_mark Start name) (λ mark. list_any (is_partner mark) before) before (any_kind Start name before ∙ ap (list_any (of_kind Start)) is ∙ none)

-- of starts alone none has its partner
start_alone : (name : List ℕ) (before : List MetMark) (text : ℕ) → seen name before ≡ seen_at Start text ∷ [] → (mark : MetMark) → (is_mark Start name mark && list_any (is_partner mark) before) ≡ false
start_alone name before text is mark = by_name (bytes_eq mark.name name) refl where
  by_kind : (kind : MarkKind) → mark.kind ≡ kind → mark.name ≡ name → ((is_same_mark_kind kind Start && bytes_eq mark.name name) && list_any (is_partner mark) before) ≡ false
  by_kind Whole e same = refl
  by_kind End e same = refl
  by_kind Start e same =
      ap (λ (b : Bool). bytes_eq mark.name name && b) (any_partner mark before ∙ ap (λ (n : List ℕ). list_any (is_end_of mark) (seen n before)) same ∙ ap (list_any (is_end_of mark)) is
      ∙ ap (λ (kind : MarkKind). (mark.text == text && are_ends kind Start) || false) e ∙ ap (λ (b : Bool). b || false) (and_false (mark.text == text)))
      ∙ and_false (bytes_eq mark.name name)

  by_name : (b : Bool) → bytes_eq mark.name name ≡ b → (is_mark Start name mark && list_any (is_partner mark) before) ≡ false
  by_name true e = by_kind mark.kind refl (is_same mark.name name e)
  by_name false e = ap (λ (b : Bool). (is_same_mark_kind mark.kind Start && b) && list_any (is_partner mark) before) e ∙ ap (λ (b : Bool). b && list_any (is_partner mark) before) (and_false (is_same_mark_kind mark.kind Start))

record IsNew (before : List MetMark) (mark : MetMark) : Type 0 where
  none_of_kind : list_any (is_mark mark.kind mark.name) before ≡ false
  none_whole : has_whole mark.name before ≡ false

abbrev own_seen : MetMark → Seen
own_seen mark = seen_at mark.kind mark.text

first_new : (before : List MetMark) (mark : MetMark) → seen mark.name before ≡ [] → IsNew before mark
first_new before mark is = record {
  none_of_kind = any_kind mark.kind mark.name before ∙ ap (list_any (of_kind mark.kind)) is;
  none_whole = no_whole mark.name before [] is refl (no_start mark.name before [] is refl);
}

second_new : (before : List MetMark) (mark : MetMark) (other : Seen) → are_ends mark.kind other.kind ≡ true → seen mark.name before ≡ other ∷ [] → IsNew before mark
second_new before mark other ends is = by_kinds mark.kind other.kind refl refl ends where
  made : (kind : MarkKind) → mark.kind ≡ kind → list_any (of_kind kind) (other ∷ []) ≡ false → list_any (of_kind Whole) (other ∷ []) ≡ false
      → list_any (λ one. is_mark Start mark.name one && list_any (is_partner one) before) before ≡ false → IsNew before mark
  made kind e apart whole none = record {
    none_of_kind = any_kind mark.kind mark.name before ∙ ap (list_any (of_kind mark.kind)) is ∙ ap (λ (k : MarkKind). list_any (of_kind k) (other ∷ [])) e ∙ apart;
    none_whole = no_whole mark.name before (other ∷ []) is whole none;
  }

  by_kinds : (kind others : MarkKind) → mark.kind ≡ kind → other.kind ≡ others → are_ends kind others ≡ true → IsNew before mark
  by_kinds Start End e f h =
      made Start e (ap (λ (k : MarkKind). is_same_mark_kind k Start || false) f) (ap (λ (k : MarkKind). is_same_mark_kind k Whole || false) f)
      (no_start mark.name before (other ∷ []) is (ap (λ (k : MarkKind). is_same_mark_kind k Start || false) f))
  by_kinds End Start e f h =
      made End e (ap (λ (k : MarkKind). is_same_mark_kind k End || false) f) (ap (λ (k : MarkKind). is_same_mark_kind k Whole || false) f)
      (none_any (λ one. is_mark Start mark.name one && list_any (is_partner one) before) before (start_alone mark.name before other.text (is ∙ ap (λ (k : MarkKind). seen_at k other.text ∷ []) f)))
  by_kinds Whole others e f h = cc
  by_kinds Start Whole e f h = cc
  by_kinds Start Start e f h = cc
  by_kinds End Whole e f h = cc
  by_kinds End End e f h = cc

is_new : (before : List MetMark) (mark : MetMark) (back : List Seen) → Stands (seen mark.name before) (own_seen mark) back → IsNew before mark
is_new before mark back (Alone whole none) = first_new before mark none
is_new before mark back (Before other ends text none next) = first_new before mark none
is_new before mark back (Behind other ends text one) = second_new before mark other ends one

-- a mark is whole or has its partner
end_of : (mark : MetMark) (other : Seen) → are_ends mark.kind other.kind ≡ true → other.text ≡ mark.text → is_end_of mark other ≡ true
end_of mark other ends text = ap₂ (λ (n : ℕ) (b : Bool). mark.text == n && b) text ends ∙ ap (λ (b : Bool). b && true) (at_own mark.text)

completes : (all : List MetMark) (mark : MetMark) (front back : List Seen) → seen mark.name all ≡ front ++ own_seen mark ∷ back → Stands front (own_seen mark) back → is_complete all mark ≡ true
completes all mark front back e (Alone whole none) = ap (λ (k : MarkKind). is_same_mark_kind k Whole || list_any (is_partner mark) all) whole
completes all mark front back e (Before other ends text none next) =
    ap (λ (b : Bool). is_same_mark_kind mark.kind Whole || b) (any_partner mark all ∙ ap (list_any (is_end_of mark)) (e ∙ ap₂ (λ (f b : List Seen). f ++ own_seen mark ∷ b) none next)
    ∙ ap (λ (b : Bool). is_end_of mark (own_seen mark) || (b || false)) (end_of mark other ends text) ∙ or_true (is_end_of mark (own_seen mark)))
    ∙ or_true (is_same_mark_kind mark.kind Whole)
completes all mark front back e (Behind other ends text one) =
    ap (λ (b : Bool). is_same_mark_kind mark.kind Whole || b) (any_partner mark all ∙ ap (list_any (is_end_of mark)) (e ∙ ap (λ (f : List Seen). f ++ own_seen mark ∷ back) one)
    ∙ ap (λ (b : Bool). b || list_any (is_end_of mark) (own_seen mark ∷ back)) (end_of mark other ends text))
    ∙ or_true (is_same_mark_kind mark.kind Whole)

-- all marks, from some on
module _ (all : List MetMark) where
  record AreKept (before marks : List MetMark) : Type 0 where
    are_new : new_marks before before marks ≡ before ++ marks
    are_complete : Each (λ mark. is_complete all mark ≡ true) marks

  seen_parts : (before : List MetMark) (mark : MetMark) (marks : List MetMark) → before ++ mark ∷ marks ≡ all → seen mark.name all ≡ seen mark.name before ++ own_seen mark ∷ seen mark.name marks
  seen_parts before mark marks e =
      ap (seen mark.name) (sym e) ∙ flat_map-append (seen_of mark.name) before (mark ∷ marks)
      ∙ ap (λ (b : Bool). seen mark.name before ++ (cond b (own_seen mark ∷ []) [] ++ seen mark.name marks)) (same_is mark.name)

  kept_from : (before marks : List MetMark) → before ++ marks ≡ all → Each (λ mark. IsWhole (seen mark.name all)) marks → AreKept before marks
  kept_from before [] e each = record { are_new = sym (append-nil before); are_complete = tt }
  kept_from before (mark ∷ marks) e each =
      let parts = seen_parts before mark marks e in
      let is = stands (seen mark.name before) (own_seen mark) (seen mark.name marks) (subst IsWhole parts each.0) in
      let new = is_new before mark (seen mark.name marks) is in
      let rest = kept_from (before ++ mark ∷ []) marks (append_assoc before (mark ∷ []) marks ∙ e) each.1 in
      record {
        are_new = ap₂ (λ (a b : Bool). cond (a || b) (new_marks (before ++ mark ∷ []) before marks) (new_marks (before ++ mark ∷ []) (before ++ mark ∷ []) marks)) new.none_of_kind new.none_whole
            ∙ rest.are_new ∙ append_assoc before (mark ∷ []) marks;
        are_complete = (completes all mark (seen mark.name before) (seen mark.name marks) parts is, rest.are_complete);
      }

pub marks_kept : (met : List Met) → Each (λ mark. IsWhole (seen mark.name (marks_met met))) (marks_met met) → kept_marks met ≡ marks_met met
marks_kept met each =
    let kept = kept_from (marks_met met) [] (marks_met met) refl each in
    ap (λ (marks : List MetMark). filter (is_complete marks) marks) kept.are_new ∙ filter_all (is_complete (marks_met met)) (marks_met met) kept.are_complete
