use Rattle.std.proofs.Common.{◌≡◌, [], ◌∷◌, ◌++◌, map, subst}
use Rattle.declared_names.specs.Kept.{stated_of}
use Rattle.read_blocks.specs.declared.read.ReadDeclarations.{ReadDeclarations}
use Rattle.doc_load.proofs.KindLemmas.{kind_step, told_of}
use Rattle.doc_load.proofs.declarations.stated_among.Goals as goal

pub declarations-preserved : goal.declarations-preserved
declarations-preserved c =
    kind_step c.args.sequences c.args.declarations.now c.declarations.part-index c.part-item.result _ _ c.declarations-test.true c.declarations.invariant
    (subst (λ (part : ReadDeclarations). map stated_of c.push_kind.new.stated.items ≡ map stated_of c.declarations.stated.items ++ told_of c.args.sequences (part ∷ [])) c.part-item.is c.in_ok-push_kind.ensures)
