-- Where the row of a paragraph stands, and a change of it.
use Rattle.std.proofs.Common.{◌≡◌, ℕ, ◌+◌, Bool, true, false, cond, eqb, ltb, List, [], ◌∷◌, ◌++◌, length, map, take, drop, suc, refl, ap, ap₂, sym, ◌∙◌, subst, arith, Option, Some, None}
use Rattle.std.specs.Prelude.{◌||◌, not, if◌then◌else◌, slice_get, position, unwrap_or}
use Rattle.std.specs.List.{flat_map, list_any, position_or_len, IsDistinct, AllByRecursion as Each}
use Rattle.std.proofs.lemmas.Bool.{false≢true}
use Rattle.std.proofs.lemmas.Bool.Decides.{Decides-eqb}
use Rattle.std.proofs.lemmas.List.{map-append}
use Rattle.std.proofs.lemmas.Option.{none-some}
use Rattle.std.proofs.lemmas.Map.Made.{IsDistinct-from_AllPairs}
use Rattle.doc_model.specs.declared.paragraph.ParId.{ParId}
use Rattle.node_array.specs.declared.row.Row.{Row}
use Rattle.node_array.specs.declared.row.Row.TheVariants as row
use Rattle.node_array.specs.Places.{is_par}
use Rattle.paragraph_rows.specs.Changes.{at_par}
use Rattle.paragraph_rows.specs.Standing.{number_in, AreApart, Stands}

some_is : {X : Type 0} (x y : X) → Some x ≡ Some y → x ≡ y
some_is {X = X} x y e = ap (λ (o : Option X). unwrap_or o x) e

-- rows among which the paragraph isn't
unchanged : (par : ParId) (later : Row → Row) (rows : List Row) → list_any (is_par par) rows ≡ false → map (at_par par later) rows ≡ rows
unchanged par later [] none = refl
unchanged par later (one ∷ rows) none = by_test (is_par par one) none (unchanged par later rows) where
  by_test : (test : Bool) → (test || list_any (is_par par) rows) ≡ false → (list_any (is_par par) rows ≡ false → map (at_par par later) rows ≡ rows)
      → (if test then later one else one) ∷ map (at_par par later) rows ≡ one ∷ rows
  by_test true none rest = absurd (false≢true (sym none))
  by_test false none rest = ap (λ more. one ∷ more) (rest none)

here : (par : ParId) (later : Row → Row) (one : Row) → is_par par one ≡ true → at_par par later one ≡ later one
here par later one is = ap (λ (test : Bool). if test then later one else one) is

pub row_changed : (par : ParId) (later : Row → Row) (rows before : List Row) (one : Row) (behind : List Row) → Stands par rows before one behind
    → map (at_par par later) rows ≡ before ++ later one ∷ behind
row_changed par later rows before one behind stands =
    ap (map (at_par par later)) stands.rows_are ∙ map-append (at_par par later) before (one ∷ behind)
    ∙ ap₂ (λ front more. front ++ more) (unchanged par later before stands.none_before)
    (ap₂ (λ first more. first ∷ more) (here par later one stands.own) (unchanged par later behind stands.none_behind))

-- the parts of rows round a place
abbrev Parts : ParId → List Row → ℕ → Row → Type 0
Parts par rows at one = (rows ≡ take at rows ++ one ∷ drop (at + 1) rows) × (is_par par one ≡ true) × (list_any (is_par par) (take at rows) ≡ false)

first_parts : (par : ParId) (rows : List Row) (one : Row) → slice_get rows (position_or_len (is_par par) rows) ≡ Some one → Parts par rows (position_or_len (is_par par) rows) one
first_parts par [] one there = absurd (none-some one there)
first_parts par (first ∷ rows) one there = by_test (is_par par first) refl (first_parts par rows one) there where
  k : ℕ
  k = position_or_len (is_par par) rows

  by_test : (test : Bool) → is_par par first ≡ test → (slice_get rows k ≡ Some one → Parts par rows k one)
      → slice_get (first ∷ rows) (cond (not test) (1 + k) 0) ≡ Some one → Parts par (first ∷ rows) (cond (not test) (1 + k) 0) one
  by_test true is rest there =
      let same : first ≡ one = some_is first one there in
      (ap (λ r. r ∷ rows) same, ap (is_par par) (sym same) ∙ is, refl)
  by_test false is rest there =
      let up : suc k ≡ 1 + k = omega arith in
      let more = rest (ap (slice_get (first ∷ rows)) up ∙ there) in
      let far : suc (k + 1) ≡ suc k + 1 = omega arith in
      subst (λ n. Parts par (first ∷ rows) n one) up
      (ap (λ rs. first ∷ rs) more.0 ∙ ap (λ n. first ∷ (take k rows ++ one ∷ drop n (first ∷ rows))) far, more.1, ap (λ b. b || list_any (is_par par) (take k rows)) is ∙ more.2)

place_is : (k at : ℕ) (test : Bool) → cond test (Some k) None ≡ Some at → k ≡ at
place_is k at true found = some_is k at found
place_is k at false found = absurd (none-some at found)

parts : (par : ParId) (rows : List Row) (at : ℕ) (one : Row) → position (is_par par) rows ≡ Some at → slice_get rows at ≡ Some one → Parts par rows at one
parts par rows at one found there =
    let k : ℕ = position_or_len (is_par par) rows in
    let same : k ≡ at = place_is k at (ltb k (length rows)) found in
    subst (λ n. Parts par rows n one) same (first_parts par rows one (ap (slice_get rows) same ∙ there))

-- numbers that are apart
others : (par : ParId) (rows : List Row) → Each (λ number. eqb par.0 number ≡ false) (flat_map number_in rows) → list_any (is_par par) rows ≡ false
others par [] apart = refl
others par (row.Start head ∷ rows) apart = others par rows apart
others par (row.End ∷ rows) apart = others par rows apart
others par (row.Par head items ∷ rows) apart = ap (λ b. b || list_any (is_par par) rows) apart.0 ∙ others par rows apart.1
others par (row.NoteText ∷ rows) apart = others par rows apart

behind : (par : ParId) (before : List Row) (one : Row) (more : List Row) → is_par par one ≡ true → IsDistinct eqb (flat_map number_in (before ++ one ∷ more)) → list_any (is_par par) more ≡ false
unfolding IsDistinct
behind par [] (row.Start head) more own apart = absurd (false≢true own)
behind par [] row.End more own apart = absurd (false≢true own)
behind par [] (row.Par head items) more own apart =
    let same : par.0 ≡ head.id.0 = (Decides-eqb par.0 head.id.0).0 own in
    others par more (subst (λ n. Each (λ number. eqb n number ≡ false) (flat_map number_in more)) (sym same) apart.0)
behind par [] row.NoteText more own apart = absurd (false≢true own)
behind par (row.Start head ∷ before) one more own apart = behind par before one more own apart
behind par (row.End ∷ before) one more own apart = behind par before one more own apart
behind par (row.Par head items ∷ before) one more own apart = behind par before one more own apart.1
behind par (row.NoteText ∷ before) one more own apart = behind par before one more own apart

pub row_found : (par : ParId) (rows : List Row) (at : ℕ) (one : Row) → position (is_par par) rows ≡ Some at → slice_get rows at ≡ Some one → AreApart rows
    → Stands par rows (take at rows) one (drop (at + 1) rows)
row_found par rows at one found there apart =
    let is = parts par rows at one found there in
    record {
      rows_are = is.0;
      own = is.1;
      none_before = is.2;
      none_behind = behind par (take at rows) one (drop (at + 1) rows) is.1 (subst (λ rs. IsDistinct eqb (flat_map number_in rs)) is.0 (IsDistinct-from_AllPairs Decides-eqb (flat_map number_in rows) apart));
    }
