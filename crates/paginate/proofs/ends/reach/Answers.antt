use Rattle.std.proofs.Common.{◌≡◌, ◌+◌, length, drop, get_or, true, false, ap, sym, refl, ◌∙◌, arith}
use Rattle.page_model.specs.declared.row.Row.{Row}
use Rattle.paginate.specs.Neighbours.{must_end_first, blanks_first}
use Rattle.paginate.proofs.EndLemmas.{from_on, blanks-first, blanks-more, forced-some, forced-here, unforced-here, past-forced, past-room, forced-within, cost-more, over-room, within-room, reached-more, notes-more, separator-least}
use Rattle.paginate.proofs.ends.reach.Goals as goal

pub rows-init : goal.rows-init
rows-init c = record {
  lines = refl;
  notes = omega arith;
  gap = λ h. blanks-first c.args.rows.now;
  reached = λ place least most. absurd (omega arith);
  unforced = λ h. forced-some c.args.rows.now h;
  small = omega arith;
  few = omega arith;
}

pub returns-then-not-fits-clause-past : goal.returns-then-not-fits-clause-past
returns-then-not-fits-clause-past c = λ place past.
    let rows = c.args.rows.now in
    let more : c.len.result ≡ length (get_or rows c.rows.index c.index-rows-index.result).notes = c.len.ensures ∙ ap (λ (row : Row). length row.notes) c.index-rows-index.is in
    let cost = cost-more c.args.carried.now rows c.rows.index c.rows.lines c.rows.blanks c.rows.notes c.len.result c.index-rows-index.result c.rows-test.true
    c.rows.invariant.lines c.rows.invariant.notes (c.rows.invariant.gap c.rows-test.true) more in
    let over = over-room (c.rows.lines + (c.rows.blanks + 1)) (c.rows.notes + c.len.result) c.saturating_add-notes.result c.args.room c.saturating_add-notes.ensures (sym c.fits.ensures ∙ c.if-not-fits.true) in
    past-room c.args.room c.args.carried.now rows (c.rows.index + 1) place (omega (arith, cost, over)) (omega arith)

pub returns-then-must_end_first-clause-past : goal.returns-then-must_end_first-clause-past
returns-then-must_end_first-clause-past c = λ place past.
    let forced : must_end_first (drop c.rows.index c.args.rows.now) ≡ true =
    sym (ap must_end_first (from_on c.rows.index c.args.rows.now)) ∙ sym c.must_end_first.ensures ∙ c.if-must_end_first.true in
    let here = forced-here c.args.rows.now c.rows.index (c.rows.invariant.unforced c.rows-test.true) forced in
    past-forced c.args.room c.args.carried.now c.args.rows.now place (omega (arith, here))

pub returns-then-must_end_first-clause-reached : goal.returns-then-must_end_first-clause-reached
returns-then-must_end_first-clause-reached c =
    let rows = c.args.rows.now in
    let more : c.len.result ≡ length (get_or rows c.rows.index c.index-rows-index.result).notes = c.len.ensures ∙ ap (λ (row : Row). length row.notes) c.index-rows-index.is in
    let cost = cost-more c.args.carried.now rows c.rows.index c.rows.lines c.rows.blanks c.rows.notes c.len.result c.index-rows-index.result c.rows-test.true
    c.rows.invariant.lines c.rows.invariant.notes (c.rows.invariant.gap c.rows-test.true) more in
    let fits = within-room (c.rows.lines + (c.rows.blanks + 1)) (c.rows.notes + c.len.result) c.saturating_add-notes.result c.args.room c.saturating_add-notes.ensures c.requires (sym c.fits.ensures ∙ c.if-not-fits.false) in
    reached-more c.args.room c.args.carried.now rows c.rows.index c.rows.invariant.reached (omega (arith, cost, fits.1)) (c.rows.invariant.unforced c.rows-test.true)

pub rows-preserved : goal.rows-preserved
rows-preserved c =
    let rows = c.args.rows.now in
    let more : c.len.result ≡ length (get_or rows c.rows.index c.index-rows-index.result).notes = c.len.ensures ∙ ap (λ (row : Row). length row.notes) c.index-rows-index.is in
    let gap = c.rows.invariant.gap c.rows-test.true in
    let cost = cost-more c.args.carried.now rows c.rows.index c.rows.lines c.rows.blanks c.rows.notes c.len.result c.index-rows-index.result c.rows-test.true
    c.rows.invariant.lines c.rows.invariant.notes gap more in
    let fits = within-room (c.rows.lines + (c.rows.blanks + 1)) (c.rows.notes + c.len.result) c.saturating_add-notes.result c.args.room c.saturating_add-notes.ensures c.requires (sym c.fits.ensures ∙ c.if-not-fits.false) in
    let unforced : must_end_first (drop c.rows.index rows) ≡ false =
    sym (ap must_end_first (from_on c.rows.index rows)) ∙ sym c.must_end_first.ensures ∙ c.if-must_end_first.false in
    let blanks : c.blanks_first-blanks.result ≡ blanks_first (drop c.rows.index rows) = c.blanks_first-blanks.ensures ∙ ap blanks_first (from_on c.rows.index rows) in
    let under = c.rows.invariant.unforced c.rows-test.true in
    record {
      lines = omega (arith, gap);
      notes = omega (arith, fits.0, notes-more rows c.rows.index c.index-rows-index.result c.rows-test.true, more);
      gap = λ h. rw blanks (blanks-more rows c.rows.index h);
      reached = reached-more c.args.room c.args.carried.now rows c.rows.index c.rows.invariant.reached (omega (arith, cost, fits.1)) under;
      unforced = λ h. unforced-here rows c.rows.index under unforced;
      small = omega (arith, fits.1);
      few = omega (arith, fits.0, fits.1, separator-least (c.rows.notes + c.len.result));
    }

pub returns-clause-past : goal.returns-clause-past
returns-clause-past c = λ place past. past-forced c.args.room c.args.carried.now c.args.rows.now place (omega (arith, forced-within c.args.rows.now))
