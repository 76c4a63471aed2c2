use Rattle.std.proofs.Common.{◌∙◌, ap₂, List, ℕ, Some}
use Rattle.std.specs.Str.{chars}
use Rattle.expanded_names.proofs.Cuts.{no_split, split_there, around_colon}
use Rattle.expanded_names.proofs.parts.cut.Goals as goal

pub returns-in-Some : goal.returns-in-Some
returns-in-Some c =
    let parts = around_colon c.args.name.now c.in-Some.prefix.now c.in-Some.local_name.now c.in-Some.ensures.cases in
    ap₂ (λ (p q : List ℕ). record { prefix = Some (chars p); local_name = chars q }) c.as_text.ensures.same c.as_text-in-Some.ensures.same
    ∙ split_there c.args.name.now c.in-Some.prefix.now c.in-Some.local_name.now c.as_text.ensures.utf8 c.as_text-in-Some.ensures.utf8 parts.0 parts.1

pub returns-in-None : goal.returns-in-None
returns-in-None c = no_split c.args.name.now c.utf8.name c.in-None.ensures.cases
