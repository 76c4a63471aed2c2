use Rattle.std.proofs.Common.{◌∙◌, ◌≡◌, ◌-◌, ap, arith, length, refl}
use Rattle.load_model.specs.Left.{both, only_elements}
use Rattle.element_parts.specs.Shown.{shown}
use Rattle.read_blocks.specs.declared.read.ReadBlocks.{ReadBlocks}
use Rattle.read_blocks.proofs.AddLemmas.{dropped}
use Rattle.read_blocks.proofs.read.ReadBlocks.drop_behind.Goals as goal

pub returns : goal.returns
returns c = λ in_note old more adds sources declarations.
    let all = c.args.self.now in
    let now : ReadBlocks = record all { sources = c.truncate-2.new.self; declarations = c.truncate.new.self; left = c.both-self.result } in
    let m = length all.declarations.items - c.args.declarations in
    let known : c.len.result ≡ length all.declarations.items = omega (arith, c.len.ensures) in
    let counted : c.len-2.result ≡ length all.sources.items = omega (arith, c.len-2.ensures) in
    let n = length all.sources.items - c.args.sources in
    dropped in_note old all more c.args.sources c.args.declarations now adds sources declarations refl c.truncate-2.ensures.items c.truncate.ensures.items
    (λ left is. c.both-self.ensures (both left (only_elements m)) (only_elements n)
    (c.both.ensures left (only_elements m) is (c.elements.ensures ∙ ap (λ k. shown (only_elements k)) (c.saturating_sub-dropped_declarations.ensures ∙ ap (λ k. k - c.args.declarations) known)))
    (c.elements-2.ensures ∙ ap (λ k. shown (only_elements k)) (c.saturating_sub-dropped_sources.ensures ∙ ap (λ k. k - c.args.sources) counted)))
