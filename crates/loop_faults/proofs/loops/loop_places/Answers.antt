use Rattle.std.proofs.Common.{◌∙◌, List, map, ap, sym, subst}
use Rattle.std.specs.List.{flat_map}
use Rattle.std.proofs.lemmas.Result.{IfOk-weaker}
use Rattle.doc_model.specs.declared.style.Style.{Style}
use Rattle.load_model.specs.Styles.{kept_styles}
use Rattle.sheet_kept.specs.Held.{seen}
use Rattle.style_loops.specs.Loops.{AreDistinct}
use Rattle.loop_faults.specs.Looped.{looped_at}
use Rattle.loop_faults.proofs.StyleLemmas.{distinct, loops_are}
use Rattle.loop_faults.proofs.loops.loop_places.Goals as goal

pub returns : goal.returns
returns c =
    IfOk-weaker c.places_among.result _ _ (λ places told root sheet same.
    told c.args.styles.now (c.in_ok-loops.ensures (subst AreDistinct (sym same) (distinct root)))
    ∙ ap (flat_map (looped_at c.args.styles.now)) (ap (map seen) c.as_slice-kept.ensures.value ∙ sheet.styles_are)
    ∙ ap (λ (all : List Style). flat_map (looped_at all) (kept_styles root)) same ∙ loops_are root) c.places_among.ensures
