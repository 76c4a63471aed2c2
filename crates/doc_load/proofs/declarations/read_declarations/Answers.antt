use Rattle.std.proofs.Common.{List, ℕ, map, false, true, ◌++◌, ◌∙◌, ap, ap₂, sym, subst}
use Rattle.load_model.specs.Blocks as blocks
use Rattle.load_model.specs.Left.{all_of, both, nothing}
use Rattle.load_model.specs.Loaded.{read_text}
use Rattle.doc_model.specs.declared.refusal.Limit.TheVariants as limit
use Rattle.load_model.specs.Offences.{beyond, merged}
use Rattle.declared_names.specs.Merge.{IsRising}
use Rattle.read_blocks.specs.declared.read.ReadDeclarations.{ReadDeclarations}
use Rattle.doc_load.proofs.LeftLemmas.{between_are, of_kind}
use Rattle.doc_load.proofs.NameLemmas.{names_told, kept_at, used_at}
use Rattle.doc_load.proofs.declarations.read_declarations.Goals as goal

pub returns : goal.returns
returns c = λ root parts things ordered.
    let variables = c.in_ok-variables.ensures root parts things in
    let sequences = c.in_ok-sequences.ensures root parts things in
    let v = c.in_ok-variables.variables in
    let s = c.in_ok-sequences.sequences in
    let kv = kept_at false root v variables in
    let ks = kept_at true root s sequences in
    let uv = used_at false root v variables in
    let us = used_at true root s sequences in
    let between = all_of (map (λ (part : blocks.ReadDeclarations). part.left) (read_text root).declarations) in
    let left = c.left_between.ensures (map (λ (part : blocks.ReadDeclarations). part.left) (read_text root).declarations) (ap (map (λ (part : ReadDeclarations). part.left)) parts ∙ between_are (read_text root).declarations) in
    record {
      variables_are = c.in_ok-names.ensures ∙ names_told false root v variables;
      sequences_are = c.in_ok-names-2.ensures ∙ names_told true root s sequences;
      beyond_is = c.in_ok-beyond.ensures (subst IsRising (sym kv) (ordered.declarations false)) (subst IsRising (sym uv) (ordered.uses false))
          ∙ ap (beyond limit.Declarations) (ap₂ (λ (front back : List ℕ). front ++ back) (ap₂ merged kv ks) (ap₂ merged uv us));
      left_is = c.both-left.ensures (both (both nothing between) (of_kind false root)) (of_kind true root) (c.both-2.ensures (both nothing between) (of_kind false root) (c.both.ensures nothing between c.nothing.ensures left) variables.left_is) sequences.left_is;
    }
