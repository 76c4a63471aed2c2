use Rattle.std.proofs.Common.{◌∙◌, List, map, ap, ap₂}
use Rattle.declared_names.specs.Kept.{Shown, firsts_of}
use Rattle.declared_names.specs.Names.{first_declarations}
use Rattle.declared_names.specs.Used.{first_uses}
use Rattle.declared_names.proofs.FirstLemmas.{firsts_shown, names_shown}
use Rattle.declared_names.proofs.UseLemmas.{fields_by}
use Rattle.declared_names.proofs.names.declared_names.Goals as goal

pub returns : goal.returns
returns c = λ declarations things stated met.
    let firsts = ap firsts_of stated ∙ firsts_shown declarations in
    record {
      kept_are = c.in_ok-kept.ensures.kept_are ∙ firsts;
      used_are = c.in_ok-used.ensures.used_are
          ∙ ap₂ first_uses (c.in_ok-kept.ensures.names_are ∙ ap (λ (some : List Shown). map (λ (one : Shown). one.name) some) firsts ∙ names_shown (first_declarations declarations))
          (fields_by c.args.sequences c.args.met.now things met);
    }
