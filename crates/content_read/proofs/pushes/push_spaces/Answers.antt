use Rattle.std.proofs.Common.{◌+◌, ◌++◌, ◌∷◌, [], List, map, replicate, sym, subst}
use Rattle.doc_model.specs.declared.paragraph.Item.{Item, roll-Item}
use Rattle.doc_model.specs.declared.paragraph.What.{What}
use Rattle.doc_model.specs.declared.paragraph.What.TheVariants.{rolls-Char}
use Rattle.doc_model.specs.declared.paragraph.What.TheOpen.{What-F}
use Rattle.item_spaces.specs.Spacing.{Holds}
use Rattle.load_model.specs.Content.{Raw, Read, item_in}
use Rattle.content_read.proofs.AddLemmas.{gains_is, gains_one, same_more}
use Rattle.content_read.proofs.pushes.push_spaces.Goals as goal

pub loop-preserved : goal.loop-preserved
loop-preserved c =
    let item : Item = item_in c.args.spans.now (What-F.Char 0x20) in
    gains_is c.args.items.now c.push_what.new.items (map Read (replicate c.loop.counter item) ++ Read item ∷ []) (map Read (replicate (c.loop.counter + 1) item)) (same_more item c.loop.counter)
    (gains_one c.args.items.now c.loop.items c.push_what.new.items (map Read (replicate c.loop.counter item)) (Read item) c.loop.invariant
    (subst (λ (what : What). (before : List Raw) → Holds c.loop.items before → Holds c.push_what.new.items (Read (roll-Item (record { spans = c.args.spans.now; what = what })) ∷ before)) (sym (rolls-Char 0x20)) c.in_ok-push_what.ensures))
