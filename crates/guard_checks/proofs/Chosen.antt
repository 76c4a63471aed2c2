-- Which of several paragraphs is asked first.
use Rattle.std.proofs.Common.{◌≡◌, ◌≢◌, ℕ, ◌≤◌, ◌<◌, eqb, leb, Bool, true, false, ◌||◌, ◌&&◌, List, [], ◌∷◌, refl, ap, sym, ◌∙◌, subst, arith, Option, Some, None, Result, Ok, Err}
use Rattle.std.specs.Prelude.{IfOk, position}
use Rattle.std.specs.Option.{option_or}
use Rattle.std.proofs.lemmas.Bool.{leb-true, leb-false, and_parts}
use Rattle.doc_model.specs.declared.block.Block.{Block}
use Rattle.doc_model.specs.declared.document.Document.{Document}
use Rattle.doc_model.specs.declared.paragraph.ParId.{ParId}
use Rattle.doc_model.specs.declared.refusal.Refusal.{Refusal}
use Rattle.container_rows.proofs.Firsts.{by_test}
use Rattle.edit_checks.specs.Firsts.{first_absent}
use Rattle.edit_rules.specs.Places.{live_paragraph, placed_paragraphs}
use Rattle.level_walks.proofs.Live.{both_live, first_live, rest_live}
use Rattle.level_walks.proofs.Rows.{HasRow, live_row}
use Rattle.node_array.specs.Places.{is_par}
use Rattle.node_array.specs.Rows.{rows_of}
use Rattle.paragraph_rows.specs.Flat.{AreFlat}
use Rattle.paragraph_rows.specs.Standing.{AreApart}
use Rattle.guard_checks.specs.Among.{protected_of}
use Rattle.guard_checks.proofs.Firsts.{alike, three, two}

-- what holds of an answer
pub ok_map : {X E : Type 0} (r : Result X E) (P Q : X → Type 0) → ((x : X) → P x → Q x) → IfOk r P → IfOk r Q
ok_map (Ok x) P Q step is = step x is
ok_map (Err e) P Q step is = tt

-- the first one refuses, or leaves it to the others
pub first_refuses : (all first more : Option Refusal) (why : Refusal) → all ≡ option_or first more → Some why ≡ first → Some why ≡ all
first_refuses all first more why is refuses = sym (is ∙ ap (λ (o : Option Refusal). option_or o more) (sym refuses))

pub more_refuse : (all first more : Option Refusal) → all ≡ option_or first more → None ≡ first → more ≡ all
more_refuse all first more is none = sym (is ∙ ap (λ (o : Option Refusal). option_or o more) (sym none))

-- some of the paragraphs that an edit names are live
pub only_live : (doc : Document) (par : ParId) (pars : List ParId) → first_absent doc (par ∷ pars) ≡ None → first_absent doc (par ∷ []) ≡ None
only_live doc par pars named = both_live doc par [] (first_live doc par pars named) refl

pub other_live : (doc : Document) (one other third : ParId) → first_absent doc (one ∷ other ∷ third ∷ []) ≡ None → first_absent doc (one ∷ third ∷ []) ≡ None
other_live doc one other third named =
    both_live doc one (third ∷ []) (first_live doc one (other ∷ third ∷ []) named) (rest_live doc other (third ∷ []) (rest_live doc one (other ∷ third ∷ []) named))

pub early_live : (doc : Document) (one other third : ParId) → first_absent doc (one ∷ other ∷ third ∷ []) ≡ None → first_absent doc (one ∷ other ∷ []) ≡ None
early_live doc one other third named =
    both_live doc one (other ∷ []) (first_live doc one (other ∷ third ∷ []) named) (only_live doc other (third ∷ []) (rest_live doc one (other ∷ third ∷ []) named))

-- a test of which row stands first
abbrev pub Tests : List Block → ParId → ParId → Bool → Type 0
Tests body one other test = (at behind : ℕ) → position (is_par one) (rows_of body) ≡ Some at → position (is_par other) (rows_of body) ≡ Some behind → test ≡ leb at behind

abbrev pub TestsBoth : List Block → ParId → ParId → ParId → Bool → Type 0
TestsBoth body one other third test = (at behind last : ℕ) → position (is_par one) (rows_of body) ≡ Some at → position (is_par other) (rows_of body) ≡ Some behind → position (is_par third) (rows_of body) ≡ Some last
    → test ≡ (leb at behind && leb at last)

second_first : (a b c : Bool) → (a || (b || c)) ≡ (b || (a || c))
second_first true true c = refl
second_first true false c = refl
second_first false true c = refl
second_first false false c = refl

third_first : (a b c d : Bool) → (a || (b || (c || d))) ≡ (c || (a || (b || d)))
third_first a b c d = ap (λ (x : Bool). a || x) (second_first b c d) ∙ second_first a c (b || d)

module _ (doc : Document) (body : List Block) (same : doc.body ≡ body) (flat : AreFlat (rows_of body)) (apart : AreApart (rows_of body)) where
  flat_here : AreFlat (rows_of doc.body)
  flat_here = subst (λ (b : List Block). AreFlat (rows_of b)) (sym same) flat

  apart_here : AreApart (rows_of doc.body)
  apart_here = subst (λ (b : List Block). AreApart (rows_of b)) (sym same) apart

  row_of : (par : ParId) → live_paragraph doc par ≢ None → HasRow par (rows_of doc.body)
  row_of par live = live_row doc par flat_here apart_here live

  -- what a test says
  module _ (one other : ParId) (test : Bool) (live : live_paragraph doc one ≢ None) (live_too : live_paragraph doc other ≢ None) (tests : Tests body one other test) where
    test_is : test ≡ leb (row_of one live).at (row_of other live_too).at
    test_is =
        subst (λ (b : List Block). (at behind : ℕ) → position (is_par one) (rows_of b) ≡ Some at → position (is_par other) (rows_of b) ≡ Some behind → test ≡ leb at behind) (sym same) tests
        (row_of one live).at (row_of other live_too).at (row_of one live).found (row_of other live_too).found

    passes : test ≡ true → (row_of one live).at ≤ (row_of other live_too).at
    passes is = leb-true (row_of one live).at (row_of other live_too).at (sym test_is ∙ is)

    fails : test ≡ false → (row_of other live_too).at < (row_of one live).at
    fails is = leb-false (row_of one live).at (row_of other live_too).at (sym test_is ∙ is)

  -- of two
  pub two_chosen : (one other : ParId) (test : Bool) → first_absent doc (one ∷ other ∷ []) ≡ None → Tests body one other test → test ≡ true
      → protected_of doc (one.0 ∷ other.0 ∷ []) ≡ option_or (protected_of doc (one.0 ∷ [])) (protected_of doc (other.0 ∷ []))
  two_chosen one other test named tests is =
      let live : live_paragraph doc one ≢ None = first_live doc one (other ∷ []) named in
      let live_too : live_paragraph doc other ≢ None = first_live doc other [] (rest_live doc one (other ∷ []) named) in
      two doc flat_here apart_here one other (row_of one live).at (row_of other live_too).at (row_of one live).found (row_of other live_too).found (passes one other test live live_too tests is)

  pub two_turned : (one other : ParId) (test : Bool) → first_absent doc (one ∷ other ∷ []) ≡ None → Tests body one other test → test ≡ false
      → protected_of doc (one.0 ∷ other.0 ∷ []) ≡ option_or (protected_of doc (other.0 ∷ [])) (protected_of doc (one.0 ∷ []))
  two_turned one other test named tests is =
      let live : live_paragraph doc one ≢ None = first_live doc one (other ∷ []) named in
      let live_too : live_paragraph doc other ≢ None = first_live doc other [] (rest_live doc one (other ∷ []) named) in
      let before : (row_of other live_too).at < (row_of one live).at = fails one other test live live_too tests is in
      alike (one.0 ∷ other.0 ∷ []) (other.0 ∷ one.0 ∷ []) (λ n. second_first (eqb one.0 n) (eqb other.0 n) false) (placed_paragraphs doc)
      ∙ two doc flat_here apart_here other one (row_of other live_too).at (row_of one live).at (row_of other live_too).found (row_of one live).found (omega (arith, before))

  -- of three
  module _ (one other third : ParId) (named : first_absent doc (one ∷ other ∷ third ∷ []) ≡ None) where
    live_one : live_paragraph doc one ≢ None
    live_one = first_live doc one (other ∷ third ∷ []) named

    live_other : live_paragraph doc other ≢ None
    live_other = first_live doc other (third ∷ []) (rest_live doc one (other ∷ third ∷ []) named)

    live_third : live_paragraph doc third ≢ None
    live_third = first_live doc third [] (rest_live doc other (third ∷ []) (rest_live doc one (other ∷ third ∷ []) named))

    abbrev i : ℕ
    i = (row_of one live_one).at

    abbrev j : ℕ
    j = (row_of other live_other).at

    abbrev k : ℕ
    k = (row_of third live_third).at

    module _ (test : Bool) (tests : TestsBoth body one other third test) where
      first_is : test ≡ (leb i j && leb i k)
      first_is =
          subst (λ (b : List Block). (at behind last : ℕ) → position (is_par one) (rows_of b) ≡ Some at → position (is_par other) (rows_of b) ≡ Some behind → position (is_par third) (rows_of b) ≡ Some last → test ≡ (leb at behind && leb at last)) (sym same) tests
          i j k (row_of one live_one).found (row_of other live_other).found (row_of third live_third).found

      pub one_chosen : test ≡ true → protected_of doc (one.0 ∷ other.0 ∷ third.0 ∷ []) ≡ option_or (protected_of doc (one.0 ∷ [])) (protected_of doc (other.0 ∷ third.0 ∷ []))
      one_chosen is =
          let both = and_parts (leb i j) (leb i k) (sym first_is ∙ is) in
          three doc flat_here apart_here one other third i j k (row_of one live_one).found (row_of other live_other).found (row_of third live_third).found
          (leb-true i j both.0) (leb-true i k both.1)

      later : test ≡ false → (j < i → k < i) → k < i
      later off step =
          by_test (leb i j)
          (λ first. leb-false i k (ap (λ (b : Bool). b && leb i k) (sym first) ∙ sym first_is ∙ off))
          (λ not_first. step (leb-false i j not_first))

      sooner : test ≡ false → (k < i → j < i) → j < i
      sooner off step =
          by_test (leb i j)
          (λ first. step (leb-false i k (ap (λ (b : Bool). b && leb i k) (sym first) ∙ sym first_is ∙ off)))
          (λ not_first. leb-false i j not_first)

      pub other_chosen : (last : Bool) → Tests body other third last → test ≡ false → last ≡ true
          → protected_of doc (one.0 ∷ other.0 ∷ third.0 ∷ []) ≡ option_or (protected_of doc (other.0 ∷ [])) (protected_of doc (one.0 ∷ third.0 ∷ []))
      other_chosen last behind off is =
          let before : j ≤ k = passes other third last live_other live_third behind is in
          let front : j < i = sooner off (λ after. omega (arith, before, after)) in
          alike (one.0 ∷ other.0 ∷ third.0 ∷ []) (other.0 ∷ one.0 ∷ third.0 ∷ []) (λ n. second_first (eqb one.0 n) (eqb other.0 n) (eqb third.0 n || false)) (placed_paragraphs doc)
          ∙ three doc flat_here apart_here other one third j i k (row_of other live_other).found (row_of one live_one).found (row_of third live_third).found (omega (arith, front)) before

      pub third_chosen : (last : Bool) → Tests body other third last → test ≡ false → last ≡ false
          → protected_of doc (one.0 ∷ other.0 ∷ third.0 ∷ []) ≡ option_or (protected_of doc (third.0 ∷ [])) (protected_of doc (one.0 ∷ other.0 ∷ []))
      third_chosen last behind off is =
          let before : k < j = fails other third last live_other live_third behind is in
          let front : k < i = later off (λ after. omega (arith, before, after)) in
          alike (one.0 ∷ other.0 ∷ third.0 ∷ []) (third.0 ∷ one.0 ∷ other.0 ∷ []) (λ n. third_first (eqb one.0 n) (eqb other.0 n) (eqb third.0 n) false) (placed_paragraphs doc)
          ∙ three doc flat_here apart_here third one other k i j (row_of third live_third).found (row_of one live_one).found (row_of other live_other).found (omega (arith, front)) (omega (arith, before))
