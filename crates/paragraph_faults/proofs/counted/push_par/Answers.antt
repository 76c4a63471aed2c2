use Rattle.std.proofs.Common.{◌∙◌, ◌++◌, ◌∷◌, [], List, map, ap, ap₂, sym, append_assoc}
use Rattle.std.specs.List.{flat_map}
use Rattle.std.proofs.lemmas.Result.{on_ok_weaker}
use Rattle.doc_model.specs.declared.paragraph.Par.{out-Par}
use Rattle.load_model.specs.Offences.{Counted}
use Rattle.paragraph_faults.specs.Counts.{counted_of, count_of, note_counts}
use Rattle.paragraph_faults.proofs.CountLemmas.{par_counts}
use Rattle.paragraph_faults.proofs.counted.push_par.Goals as goal

pub returns : goal.returns
returns c =
    let par = c.args.par.now in
    let old = map counted_of c.args.counted.now.items in
    on_ok_weaker c.push_notes.result (λ e.
    e ∙ ap₂ (λ (front back : List Counted). front ++ back) c.in_ok-push_one.ensures (ap (flat_map note_counts) c.as_slice.ensures)
    ∙ append_assoc old (count_of par ∷ []) (flat_map note_counts (out-Par par).items) ∙ ap (λ (more : List Counted). old ++ more) (sym (par_counts par))) c.push_notes.ensures
