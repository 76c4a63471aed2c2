use Rattle.std.proofs.Common.{◌≡◌, ℕ, length, ap, sym, ◌∙◌, arith, Option, Some, None, unwrap_or}
use Rattle.page_model.specs.Breaking.{first_there, greatest_to, may_end_at, page_end}
use Rattle.paginate.proofs.EndLemmas.{filled, page_end-reach, page_end-within, page_end-some}
use Rattle.paginate.proofs.ends.page_end.Goals as goal

pub returns-in-Some-clause-value : goal.returns-in-Some-clause-value
returns-in-Some-clause-value c =
    let reach = c.reach-reach.result in
    let rows = c.args.rows.now in
    let all = page_end-reach c.args.room reach c.args.carried.now rows (filled (length rows) c.is_empty.result c.is_empty.ensures c.if-is_empty.false)
    c.reach-reach.ensures.within c.reach-reach.ensures.reached c.reach-reach.ensures.past in
    let first : greatest_to reach (may_end_at 0 rows) ≡ Some c.in-Some.place = sym c.end_at_level.ensures ∙ c.in-Some.is in
    sym (all ∙ ap (λ (o : Option ℕ). first_there o (greatest_to reach (may_end_at 1 rows)) (greatest_to reach (may_end_at 2 rows)) 1) first)

pub returns-in-Some-clause-within : goal.returns-in-Some-clause-within
returns-in-Some-clause-within c =
    let is : c.in-Some.place ≡ page_end c.args.room c.args.carried.now c.args.rows.now = returns-in-Some-clause-value c in
    omega (arith, page_end-within c.args.room c.args.carried.now c.args.rows.now)

pub returns-in-Some-end_at_level-clause-value : goal.returns-in-Some-end_at_level-clause-value
returns-in-Some-end_at_level-clause-value c =
    let reach = c.reach-reach.result in
    let rows = c.args.rows.now in
    let all = page_end-reach c.args.room reach c.args.carried.now rows (filled (length rows) c.is_empty.result c.is_empty.ensures c.if-is_empty.false)
    c.reach-reach.ensures.within c.reach-reach.ensures.reached c.reach-reach.ensures.past in
    let first : greatest_to reach (may_end_at 0 rows) ≡ None = sym c.end_at_level.ensures ∙ c.in_default.is in
    let second : greatest_to reach (may_end_at 1 rows) ≡ Some c.in-Some-end_at_level.place = sym c.end_at_level-2.ensures ∙ c.in-Some-end_at_level.is in
    sym (all ∙ ap (λ (o : Option ℕ). first_there o (greatest_to reach (may_end_at 1 rows)) (greatest_to reach (may_end_at 2 rows)) 1) first
    ∙ ap (λ (o : Option ℕ). first_there None o (greatest_to reach (may_end_at 2 rows)) 1) second)

pub returns-in-Some-end_at_level-clause-within : goal.returns-in-Some-end_at_level-clause-within
returns-in-Some-end_at_level-clause-within c =
    let is : c.in-Some-end_at_level.place ≡ page_end c.args.room c.args.carried.now c.args.rows.now = returns-in-Some-end_at_level-clause-value c in
    omega (arith, page_end-within c.args.room c.args.carried.now c.args.rows.now)

-- the first of three where the two before aren't there
last_there : (o : Option ℕ) (n : ℕ) → n ≡ unwrap_or o 1 → n ≡ first_there None None o 1
last_there None n e = e
last_there (Some m) n e = e

pub returns-clause-value : goal.returns-clause-value
returns-clause-value c =
    let reach = c.reach-reach.result in
    let rows = c.args.rows.now in
    let all = page_end-reach c.args.room reach c.args.carried.now rows (filled (length rows) c.is_empty.result c.is_empty.ensures c.if-is_empty.false)
    c.reach-reach.ensures.within c.reach-reach.ensures.reached c.reach-reach.ensures.past in
    let first : greatest_to reach (may_end_at 0 rows) ≡ None = sym c.end_at_level.ensures ∙ c.in_default.is in
    let second : greatest_to reach (may_end_at 1 rows) ≡ None = sym c.end_at_level-2.ensures ∙ c.in_default-end_at_level.is in
    last_there (greatest_to reach (may_end_at 2 rows)) c.unwrap_or.result (c.unwrap_or.ensures ∙ ap (λ (o : Option ℕ). unwrap_or o 1) c.end_at_level-3.ensures)
    ∙ sym (all ∙ ap (λ (o : Option ℕ). first_there o (greatest_to reach (may_end_at 1 rows)) (greatest_to reach (may_end_at 2 rows)) 1) first
    ∙ ap (λ (o : Option ℕ). first_there None o (greatest_to reach (may_end_at 2 rows)) 1) second)

pub returns-clause-within : goal.returns-clause-within
returns-clause-within c =
    let is : c.unwrap_or.result ≡ page_end c.args.room c.args.carried.now c.args.rows.now = returns-clause-value c in
    omega (arith, page_end-within c.args.room c.args.carried.now c.args.rows.now)

pub returns-in-Some-clause-some : goal.returns-in-Some-clause-some
returns-in-Some-clause-some c = λ some.
    let is : c.in-Some.place ≡ page_end c.args.room c.args.carried.now c.args.rows.now = returns-in-Some-clause-value c in
    omega (arith, page_end-some c.args.room c.args.carried.now c.args.rows.now some)

pub returns-in-Some-end_at_level-clause-some : goal.returns-in-Some-end_at_level-clause-some
returns-in-Some-end_at_level-clause-some c = λ some.
    let is : c.in-Some-end_at_level.place ≡ page_end c.args.room c.args.carried.now c.args.rows.now = returns-in-Some-end_at_level-clause-value c in
    omega (arith, page_end-some c.args.room c.args.carried.now c.args.rows.now some)

pub returns-clause-some : goal.returns-clause-some
returns-clause-some c = λ some.
    let is : c.unwrap_or.result ≡ page_end c.args.room c.args.carried.now c.args.rows.now = returns-clause-value c in
    omega (arith, page_end-some c.args.room c.args.carried.now c.args.rows.now some)
