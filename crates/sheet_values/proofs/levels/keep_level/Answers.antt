use Rattle.std.proofs.Common.{◌∙◌, ◌∷◌, [], true, false, map, ap, sym}
use Rattle.std.proofs.lemmas.List.{map-append}
use Rattle.sheet_values.proofs.LevelLemmas.{keeps_level}
use Rattle.sheet_values.proofs.levels.keep_level.Goals as goal

pub returns-in_ok-push-in-Some : goal.returns-in_ok-push-in-Some
returns-in_ok-push-in-Some c = λ elements keeps.
    ap (map (λ one. one.now)) c.in_ok-push-in-Some.ensures.items ∙ map-append (λ one. one.now) c.args.kept.now.items (c.args.element ∷ [])
    ∙ keeps_level c.args.of elements c.args.element.now c.in-Some.level c.args.kept.now.items _ _ false (sym c.is_level.ensures ∙ c.if-not-is_level.false) c.in-Some.ensures keeps
    c.as_slice.ensures.value c.is_kept.ensures c.if-not-is_kept.true

pub returns-else-not-is_kept : goal.returns-else-not-is_kept
returns-else-not-is_kept c = λ elements keeps.
    keeps_level c.args.of elements c.args.element.now c.in-Some.level c.args.kept.now.items _ _ true (sym c.is_level.ensures ∙ c.if-not-is_level.false) c.in-Some.ensures keeps
    c.as_slice.ensures.value c.is_kept.ensures c.if-not-is_kept.false
