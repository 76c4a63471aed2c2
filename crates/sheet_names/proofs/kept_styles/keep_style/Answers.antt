use Rattle.std.proofs.Common.{◌∙◌, ◌∷◌, [], ap, sym, refl, map, chars}
use Rattle.std.proofs.lemmas.Bool.{not-true, not-false}
use Rattle.std.proofs.lemmas.List.{map-append}
use Rattle.sheet_kept.specs.Held.{seen}
use Rattle.sheet_names.proofs.StyleLemmas.{keeps_known, keeps_new}
use Rattle.sheet_names.proofs.kept_styles.keep_style.Goals as goal

pub returns-in_ok-push-in-Some : goal.returns-in_ok-push-in-Some
returns-in_ok-push-in-Some c = λ held keeps.
    keeps_new held (seen c.args.one) c.in-Some.key.family (chars c.in-Some.key.name.now) (sym c.is.ensures ∙ c.if-not-is.false) c.in-Some.ensures.family_is c.in-Some.ensures.name_is
    c.args.kept.now _ (not-true _ (sym c.in_ok-add-in-Some.ensures.is_new ∙ c.if-branch.true))
    (ap (map seen) c.in_ok-push-in-Some.ensures.items ∙ map-append seen c.args.kept.now.styles.items (c.args.one ∷ []))
    c.in_ok-add-in-Some.ensures.names keeps

pub returns-else-branch : goal.returns-else-branch
returns-else-branch c = λ held keeps.
    keeps_known held (seen c.args.one) c.in-Some.key.family (chars c.in-Some.key.name.now) (sym c.is.ensures ∙ c.if-not-is.false) c.in-Some.ensures.family_is c.in-Some.ensures.name_is
    c.args.kept.now _ (not-false _ (sym c.in_ok-add-in-Some.ensures.is_new ∙ c.if-branch.false)) refl
    c.in_ok-add-in-Some.ensures.names keeps
