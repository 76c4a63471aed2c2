use Rattle.std.proofs.Common.{◌≡◌, ◌∙◌, ◌++◌, List, ℕ, map, take, drop, ap, ap₂, sym, subst}
use Rattle.std.specs.Prelude.{option_to_list}
use Rattle.load_model.specs.Offences.{merged}
use Rattle.met_read.specs.declared.things.MetName.{MetName}
use Rattle.declared_names.specs.declared.stated.Stated.{Stated}
use Rattle.declared_names.specs.Merge.{kept_places, used_places, IsRising}
use Rattle.declared_names.proofs.MergeLemmas.{beyond_at}
use Rattle.declared_names.proofs.merge.declaration_beyond.Goals as goal

pub returns : goal.returns
returns c = λ kept used.
    let variables = c.args.variables.now in
    let sequences = c.args.sequences.now in
    let kv : c.as_slice-3.result.now ≡ kept_places variables = c.as_slice-3.ensures.value ∙ c.in_ok-kept_variables.ensures ∙ ap (map (λ (one : Stated). one.place)) c.as_slice.ensures.value in
    let ks : c.as_slice-4.result.now ≡ kept_places sequences = c.as_slice-4.ensures.value ∙ c.in_ok-kept_sequences.ensures ∙ ap (map (λ (one : Stated). one.place)) c.as_slice-2.ensures.value in
    let uv : c.as_slice-7.result.now ≡ used_places variables = c.as_slice-7.ensures.value ∙ c.in_ok-used_variables.ensures ∙ ap (map (λ (one : MetName). one.place)) c.as_slice-5.ensures.value in
    let us : c.as_slice-8.result.now ≡ used_places sequences = c.as_slice-8.ensures.value ∙ c.in_ok-used_sequences.ensures ∙ ap (map (λ (one : MetName). one.place)) c.as_slice-6.ensures.value in
    let first = c.in_ok-push_merged.ensures (subst IsRising (sym kv) kept) ∙ ap₂ (λ (front back : List ℕ). front ++ back) c.new-places.ensures.items (ap₂ merged kv ks) in
    let second = c.in_ok-push_merged-2.ensures (subst IsRising (sym uv) used) ∙ ap₂ (λ (front back : List ℕ). front ++ back) first (ap₂ merged uv us) in
    ap option_to_list c.place_at.ensures ∙ beyond_at 4096 c.as_slice-9.result.now ∙ ap (λ (places : List ℕ). take 1 (drop 4096 places)) (c.as_slice-9.ensures.value ∙ second)
