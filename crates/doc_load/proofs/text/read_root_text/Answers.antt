use Rattle.std.proofs.Common.{ap, map, ◌∙◌}
use Rattle.std.proofs.lemmas.Result.{IfOk-weaker}
use Rattle.load_model.specs.Loaded.{met_of}
use Rattle.met_read.specs.Read as met
use Rattle.doc_load.proofs.text.read_root_text.Goals as goal

pub returns : goal.returns
returns c =
    let root = c.args.root.now in
    let things = ap (map met.met_of) c.as_slice-things.ensures.value ∙ c.in_ok-met.ensures in
    let kept = c.in_ok-kept.ensures (met_of root) things in
    IfOk-weaker c.with_declarations.result _ _ (λ text told ordered knows.
    told ordered things (c.in_ok-faults.ensures root things kept ordered) (c.in_ok-read.ensures (record { names = knows; kept = kept }))) c.with_declarations.ensures
