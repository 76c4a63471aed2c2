use Rattle.std.proofs.Common.{◌≡◌, ◌∙◌, ap, sym, arith, List, ◌-◌, ◌≤◌, length, set, length-set, chars}
use Rattle.std.specs.Prelude.{slice_get}
use Rattle.std.proofs.lemmas.List.{set-set}
use Rattle.doc_model.specs.declared.block.Block.{Block, roll-Block}
use Rattle.doc_model.specs.declared.block.Block.TheOpen.{Block-F}
use Rattle.doc_model.specs.Plain.{plain_paragraph}
use Rattle.edit_ops.proofs.Blocks.{is_live, live_block, changed_body}
use Rattle.edit_ops.proofs.draft.Draft.change.Goals as goal

pub overflow_sub-place : goal.overflow_sub-place
overflow_sub-place c = (is_live c.args.self.now.document c.requires.plain c.args.par c.requires.live).given

pub swap_block-old-requires : goal.swap_block-old-requires
swap_block-old-requires c =
    let live = is_live c.args.self.now.document c.requires.plain c.args.par c.requires.live in
    omega (arith, live.within, ap (length {A = Block}) (c.into_vec-blocks.ensures ∙ c.replace.ensures.value))

pub changed_block-requires-clause-plain : goal.changed_block-requires-clause-plain
changed_block-requires-clause-plain c =
    let live = is_live c.args.self.now.document c.requires.plain c.args.par c.requires.live in
    let within : c.args.to ≤ length live.text = omega (arith, live.count, c.requires.within) in (
      c.args.par.0,
      live.text,
      within,
      live_block c.args.self.now.document c.requires.plain c.args.par live c.swap_block-old.result
          (ap (λ (blocks : List Block). slice_get blocks (c.args.par.0 - 1)) (sym (c.into_vec-blocks.ensures ∙ c.replace.ensures.value)) ∙ c.swap_block-old.ensures.taken),
    )

pub swap_block-stand_in-requires : goal.swap_block-stand_in-requires
swap_block-stand_in-requires c =
    let live = is_live c.args.self.now.document c.requires.plain c.args.par c.requires.live in
    omega (
      arith,
      live.within,
      ap (length {A = Block}) (c.into_vec-blocks.ensures ∙ c.replace.ensures.value),
      ap (length {A = Block}) c.swap_block-old.ensures.put,
      length-set {A = Block},
    )

pub overflow_sub-self-2 : goal.overflow_sub-self-2
overflow_sub-self-2 c =
    let live = is_live c.args.self.now.document c.requires.plain c.args.par c.requires.live in
    omega (arith, live.count, live.total, c.requires.within, c.requires.counted)

pub returns-clause-changed : goal.returns-clause-changed
returns-clause-changed c =
    let doc = c.args.self.now.document in
    let live = is_live doc c.requires.plain c.args.par c.requires.live in
    let start : c.into_vec-blocks.result.items ≡ doc.body = c.into_vec-blocks.ensures ∙ c.replace.ensures.value in
    let old : c.swap_block-old.result ≡ roll-Block (Block-F.Par (plain_paragraph c.args.par.0 live.text)) =
    live_block doc c.requires.plain c.args.par live c.swap_block-old.result (ap (λ (blocks : List Block). slice_get blocks (c.args.par.0 - 1)) (sym start) ∙ c.swap_block-old.ensures.taken) in
    let put : c.from_list.result ≡ set doc.body (c.args.par.0 - 1) c.in_ok-new.new =
    c.from_list.ensures ∙ c.swap_block-stand_in.ensures.put
    ∙ ap (λ (blocks : List Block). set blocks (c.args.par.0 - 1) c.in_ok-new.new) c.swap_block-old.ensures.put
    ∙ set-set c.into_vec-blocks.result.items (c.args.par.0 - 1) c.stand_in.result c.in_ok-new.new
    ∙ ap (λ (blocks : List Block). set blocks (c.args.par.0 - 1) c.in_ok-new.new) start in
    changed_body doc c.requires.plain c.args.par live c.args.from c.args.to (chars c.args.text.now) c.from_list.result c.in_ok-new.new put (c.in_ok-new.ensures c.args.par.0 live.text old)

pub returns-clause-counted : goal.returns-clause-counted
returns-clause-counted c =
    let live = is_live c.args.self.now.document c.requires.plain c.args.par c.requires.live in
    omega (arith, live.count, live.total, c.requires.within, c.requires.counted, c.char_count.ensures)
