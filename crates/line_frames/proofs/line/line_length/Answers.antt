-- What one more unit adds, and that no more units fit where the loop stops.
use Rattle.std.proofs.Common.{◌≡◌, ◌≤◌, ℕ, [], ◌∷◌, ◌++◌, unwrap_or, ◌+◌, ◌<◌, true, is_none, take, get_or, length, None, subst, sym, ap, ◌∙◌, arith}
use Rattle.std.proofs.lemmas.List.{take_more}
use Rattle.line_model.specs.declared.unit.TextUnit.{TextUnit}
use Rattle.line_model.specs.declared.unit.UnitClass.TheVariants.{Space}
use Rattle.line_model.specs.Units.{is_space}
use Rattle.line_model.specs.Lines.{greatest_to, or_else}
use Rattle.line_frames.specs.Rooms.{IsLeft}
use Rattle.line_frames.proofs.LineLemmas.{never_none, is_nothing, fits_to, ends_at, fits-more, fits-none, greatest_to-pass, greatest_to-fail, ends_at-is, line_length-stopped, line_length-within, or_else-is}
use Rattle.line_frames.proofs.line.line_length.Goals as goal
use Rattle.line_frames.proofs.line.line_length.Goals.{else-is_none-via-then-is_none+else-not-is_space, else-is_none-via-else-is_none, then-may_end_behind, else-may_end_behind, else-units-test, then-units-test+then-is_none+then-not-is_space}

abbrev no_unit : TextUnit
no_unit = record { from = 0; to = 0; columns = 0; class = Space }

pub units-preserved : goal.units-preserved
units-preserved c =
    let width = c.args.width in
    let units = c.args.units.now in
    let index = c.units.index in
    let there : index < length units = omega arith in
    let left : IsLeft width (take index units ++ get_or units index no_unit ∷ []) c.room_behind-room.result = c.room_behind-room.ensures width (take index units) c.units.invariant.room in
    let kept : is_none c.room_behind-room.result ≡ true → is_space (get_or units index no_unit) ≡ true =
    elim c.else-is_none.branch [
      | else-is_none-via-then-is_none+else-not-is_space w ↦ λ _. sym w.is_space.ensures ∙ w.if-not-is_space.false
      | else-is_none-via-else-is_none w ↦ λ e. absurd (never_none c.room_behind-room.result c.is_none.result c.is_none.ensures w.if-is_none.false e)
    ]
    in
    let fit : fits_to width units (index + 1) ≡ true = fits-more width units index no_unit c.room_behind-room.result there c.units.invariant.fits left kept in
    let ends : ends_at width units (index + 1) ≡ c.may_end_behind.result = ends_at-is width units index fit ∙ sym c.may_end_behind.ensures in
    record {
      room = rw (take_more units index no_unit there) left;
      fits = fit;
      fitting = sym (greatest_to-pass (fits_to width units) index fit);
      ending = elim c.if-may_end_behind.branch [
        | then-may_end_behind w ↦ w.ending-is ∙ sym (greatest_to-pass (ends_at width units) index (ends ∙ w.if-may_end_behind.true))
        | else-may_end_behind w ↦ w.ending-is ∙ c.units.invariant.ending ∙ sym (greatest_to-fail (ends_at width units) index (ends ∙ w.if-may_end_behind.false))
      ];
    }

pub returns-clause-value : goal.returns-clause-value
returns-clause-value c =
    let width = c.args.width in
    let units = c.args.units.now in
    let index = c.units.index in
    let found : c.unwrap_or.result ≡ or_else (greatest_to index (ends_at width units)) (greatest_to index (fits_to width units)) 1
    = c.unwrap_or.ensures ∙ ap (λ o. unwrap_or o 1) c.or.ensures ∙ or_else-is c.units.ending c.units.fitting
    ∙ ap (λ o. or_else o c.units.fitting 1) c.units.invariant.ending ∙ ap (λ o. or_else (greatest_to index (ends_at width units)) o 1) c.units.invariant.fitting
    in
    elim c.units-test.branch [
      | else-units-test w ↦ (
          let all : index ≡ length units = omega arith in
          found ∙ ap (λ n. or_else (greatest_to n (ends_at width units)) (greatest_to n (fits_to width units)) 1) all
          )
      | then-units-test+then-is_none+then-not-is_space w ↦ (
          let there : index < length units = omega arith in
          let full : IsLeft width (take index units ++ get_or units index no_unit ∷ []) None
          = subst (IsLeft width (take index units ++ get_or units index no_unit ∷ [])) (is_nothing w.room_behind-room.result w.is_none.result w.is_none.ensures w.if-is_none.true)
          (w.room_behind-room.ensures width (take index units) c.units.invariant.room)
          in
          let none = fits-none width units index no_unit there full (sym w.is_space.ensures ∙ w.if-not-is_space.true) in
          found ∙ sym (line_length-stopped width units index (omega arith) none)
          )
    ]

pub returns-clause-some : goal.returns-clause-some
returns-clause-some c = subst (λ (n : ℕ). 1 ≤ n) (sym (returns-clause-value c)) (line_length-within c.args.width c.args.units.now).0

pub returns-clause-within : goal.returns-clause-within
returns-clause-within c = λ filled. subst (λ (n : ℕ). n ≤ length c.args.units.now) (sym (returns-clause-value c)) ((line_length-within c.args.width c.args.units.now).1 filled)
