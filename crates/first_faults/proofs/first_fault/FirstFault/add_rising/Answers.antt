use Rattle.std.proofs.Common.{◌∙◌, ◌++◌, ap, sym, Option, ℕ}
use Rattle.std.specs.Prelude.{option_to_list}
use Rattle.load_model.specs.Offences.{least, offences_at}
use Rattle.first_faults.proofs.LeastLemmas.{rising}
use Rattle.first_faults.proofs.first_fault.FirstFault.add_rising.Goals as goal

pub returns : goal.returns
returns c = λ before places known rise first.
    c.add_at.ensures before known ∙ ap (λ (o : Option ℕ). least (before ++ offences_at c.args.kind (option_to_list o))) first ∙ sym (rising c.args.kind before places rise)
