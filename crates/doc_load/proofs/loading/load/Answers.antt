use Rattle.std.proofs.Common.{Err, subst, sym}
use Rattle.doc_load.specs.Loads.{IsFaultIn, IsLoadedUnlessMemory, IsOffenceUnlessMemory}
use Rattle.doc_load.specs.declared.offence.LoadFault.{LoadFault}
use Rattle.doc_load.proofs.AnswerLemmas.{tree_loaded, tree_refused, tree_only, tree_told, markup_refused, markup_only, markup_told}
use Rattle.doc_load.proofs.loading.load.Goals as goal

pub load_tree-requires : goal.load_tree-requires
load_tree-requires c = record { bytes = c.args.bytes.now; spelled = c.in-Ok.ensures.read }

pub returns-in-Ok : goal.returns-in-Ok
returns-in-Ok c =
    let bytes = c.args.bytes.now in
    let tree = c.in-Ok.tree in
    let spelled = c.in-Ok.ensures.read in
    record {
      loaded = tree_loaded bytes tree spelled c.load_tree.result c.load_tree.ensures;
      offence = tree_refused bytes tree spelled c.load_tree.result c.load_tree.ensures;
      only = tree_only bytes tree spelled c.load_tree.result c.load_tree.ensures;
      told = tree_told bytes tree spelled c.load_tree.result c.load_tree.ensures;
    }

pub returns-in-Err : goal.returns-in-Err
returns-in-Err c =
    let bytes = c.args.bytes.now in
    let why = c.in-Err.fault in
    record {
      loaded = tt;
      offence = subst (IsFaultIn bytes) (sym c.markup_fault.ensures) (markup_refused bytes why c.in-Err.ensures.offence);
      only = λ doc report loads. subst (λ (fault : LoadFault). IsLoadedUnlessMemory doc report (Err fault)) (sym c.markup_fault.ensures) (markup_only bytes why c.in-Err.ensures.only doc report loads);
      told = λ offence has. subst (λ (fault : LoadFault). IsOffenceUnlessMemory offence (Err fault)) (sym c.markup_fault.ensures) (markup_told bytes why c.in-Err.ensures.only c.in-Err.ensures.told offence has);
    }
