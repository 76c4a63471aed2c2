use Rattle.std.proofs.Common.{◌≡◌, ◌≢◌, ◌-◌, ◌++◌, List, ℕ, length, take, sym, ap, ap₂, subst, ◌∙◌, chars, map, replicate, string_bytes, IsCharBoundary, arith}
use Rattle.std.proofs.lemmas.Bool.Decides.{nat_tests}
use Rattle.line_model.specs.Units.{units_at}
use Rattle.line_model.specs.Lines.{end_of, without_last_spaces}
use Rattle.line_model.specs.Rows.{printed_byte}
use Rattle.break_units.proofs.Places.{without_last_spaces-place}
use Rattle.break_units.proofs.Printed.{row_of_text-some, row_of_text-none}
use Rattle.break_units.proofs.printing.row_of_text.Goals as goal
use Rattle.break_units.proofs.printing.row_of_text.Goals.{then-not-is_empty+in_ok-push_spaces+in_ok-push_printed, else-not-is_empty}

pub range-requires-clause-end_boundary : goal.range-requires-clause-end_boundary
range-requires-clause-end_boundary c =
    let shown = c.without_last_spaces-shown.ensures ∙ ap without_last_spaces (c.get.ensures ∙ c.in_ok-units.ensures) in
    subst (λ (place : ℕ). IsCharBoundary c.args.text.now place) (sym (c.end_of.ensures ∙ ap (end_of 0) shown))
    (without_last_spaces-place c.args.text.now c.utf8.text)

-- the two cases of the row: nothing is shown, or spaces and what is shown
pub returns : goal.returns
returns c =
    let key = c.args.key.now in
    let from = c.args.from in
    let text = c.args.text.now in
    let shown = c.without_last_spaces-shown.result.now in
    let shown_is : shown ≡ without_last_spaces (units_at 0 text) =
    c.without_last_spaces-shown.ensures ∙ ap without_last_spaces (c.get.ensures ∙ c.in_ok-units.ensures) in
    c.from_list.ensures ∙ ap chars
    (elim c.if-not-is_empty.branch [
      | then-not-is_empty+in_ok-push_spaces+in_ok-push_printed w ↦
          let some : length shown ≢ 0 = grind (arith, nat_tests) in
          let spaces = w.in_ok-push_spaces.ensures
          ∙ ap₂ (λ (front back : List ℕ). front ++ back) c.new-row.ensures.bytes (ap (λ (count : ℕ). replicate count 0x20) w.spaces_before.ensures) in
          let place : w.end_of.result - 0 ≡ end_of 0 shown = omega (arith, w.end_of.ensures) in
          let printed = ap (map printed_byte) (w.range.ensures.value ∙ ap (λ (count : ℕ). take count text) place) in
          ap string_bytes w.row-is ∙ w.in_ok-push_printed.ensures ∙ ap₂ (λ (front back : List ℕ). front ++ back) spaces printed
          ∙ sym (row_of_text-some key from text shown shown_is some)
      | else-not-is_empty w ↦
          ap string_bytes w.row-is ∙ c.new-row.ensures.bytes ∙ sym (row_of_text-none key from text shown shown_is (grind (arith, nat_tests)))
    ])
