use Rattle.std.proofs.Common.{◌-◌, List, length, map, ◌∙◌, ap, sym}
use Rattle.std.proofs.lemmas.List.{length-map}
use Rattle.load_model.specs.Blocks as blocks
use Rattle.load_model.specs.Left.{all_of, both, only_elements}
use Rattle.load_model.specs.Loaded.{kept_declarations, met_of, read_text, stated_declarations}
use Rattle.declared_names.specs.Kept.{Shown, shown_declared, stated_of}
use Rattle.element_parts.specs.Shown.{shown}
use Rattle.doc_load.proofs.KindLemmas.{told_of, told_kind, stated_is}
use Rattle.doc_load.proofs.declarations.of_kind.Goals as goal

pub returns : goal.returns
returns c = λ root parts things.
    let sequences = c.args.sequences in
    let told = c.in_ok-stated.ensures ∙ ap (told_of sequences) parts ∙ told_kind sequences (read_text root).declarations ∙ ap (map shown_declared) (sym (stated_is sequences root)) in
    let are = ap (map stated_of) c.as_slice-all.ensures.value ∙ told in
    let names = c.in_ok-names.ensures (stated_declarations sequences root) (met_of root) are things in
    let kept = ap (map stated_of) c.as_slice.ensures.value ∙ names.kept_are in
    let as_many = sym (length-map c.as_slice-all.result.now stated_of) ∙ ap (λ (all : List Shown). length all) are ∙ length-map (stated_declarations sequences root) shown_declared in
    record {
      names_are = names;
      left_is = c.declared_left-left.ensures (kept_declarations sequences root) kept
          ∙ ap (λ n. shown (both (all_of (map (λ (declared : blocks.Declared). declared.left) (kept_declarations sequences root))) (only_elements (n - length (kept_declarations sequences root))))) as_many;
    }
