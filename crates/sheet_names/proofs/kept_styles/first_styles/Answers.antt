use Rattle.std.proofs.Common.{◌≡◌, ◌∙◌, ◌+◌, ◌++◌, ◌∷◌, [], List, map, take, ap, sym, subst}
use Rattle.std.proofs.lemmas.List.{map_more}
use Rattle.load_model.specs.Styles.{InPart}
use Rattle.sheet_kept.specs.Held.{seen}
use Rattle.sheet_names.specs.Keys.{KeepsStyles}
use Rattle.sheet_names.proofs.kept_styles.first_styles.Goals as goal

pub held-preserved : goal.held-preserved
held-preserved c =
    let before : List InPart = map seen (take c.held.one-index c.args.held.now) in
    let next : map seen (take (c.held.one-index + 1) c.args.held.now) ≡ before ++ seen c.one-item.result ∷ [] =
    map_more seen c.args.held.now c.held.one-index c.one-item.result c.held-test.true ∙ ap (λ one. before ++ seen one ∷ []) (sym c.one-item.is) in
    subst (λ (held : List InPart). KeepsStyles held c.keep_style.new.kept) (sym next) (c.in_ok-keep_style.ensures before c.held.invariant)
