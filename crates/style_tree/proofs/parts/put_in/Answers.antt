use Rattle.std.proofs.Common.{◌≡◌, ◌∙◌, Some, ℕ, List, length, ap, sym, subst, insert}
use Rattle.doc_model.specs.declared.style.Family.{Family}
use Rattle.style_tree.specs.declared.index.Index.{Index}
use Rattle.style_tree.specs.declared.places.Shift.TheVariants.{Open}
use Rattle.style_tree.specs.Index.{Says, Notes, entries_of, shifted_entries}
use Rattle.style_tree.proofs.Saying.{says_opened, says_added}
use Rattle.style_tree.proofs.parts.put_in.Goals as goal

-- a note under an equal name of an equal place
same_note : (old new : Index) (family : Family) (given name : List ℕ) (count place : ℕ) → given ≡ name → count ≡ place → Notes old family given (Some count) new → Notes old family name (Some place) new
same_note old new family given name count place named placed notes = subst (λ name. Notes old family name (Some place) new) named (subst (λ count. Notes old family given (Some count) new) placed notes)

pub returns-clause-says : goal.returns-clause-says
returns-clause-says c =
    let style = c.args.style in
    let styles = c.args.styles.now in
    let notes = same_note c.make_room.new.self c.add.new.self style.family c.in_ok-name.name style.name c.len-count.result (length styles) c.in_ok-name.ensures c.len-count.ensures c.add.ensures in
    subst (Says c.shift.new.self) (sym (c.in-Ok.ensures.ok ∙ ap (insert styles c.args.at) c.in_ok-kept.ensures)) (says_opened c.args.index.now c.make_room.new.self c.add.new.self c.shift.new.self styles c.args.at style c.requires.in_range c.requires.new c.requires.says c.make_room.ensures.same notes (λ of. c.shift.ensures of ∙ ap (λ count. shifted_entries (Open c.args.at count) (entries_of of c.add.new.self)) c.len-count.ensures))

pub returns-then-at-count-clause-says : goal.returns-then-at-count-clause-says
returns-then-at-count-clause-says c =
    let style = c.args.style in
    let styles = c.args.styles.now in
    let notes = same_note c.make_room.new.self c.add.new.self style.family c.in_ok-name.name style.name c.len-count.result (length styles) c.in_ok-name.ensures c.len-count.ensures c.add.ensures in
    subst (Says c.add.new.self) (sym (c.in-Ok.ensures.ok ∙ ap (insert styles c.args.at) c.in_ok-kept.ensures)) (says_added c.args.index.now c.make_room.new.self c.add.new.self c.add.new.self styles c.args.at style (c.if-at-count.true ∙ c.len-count.ensures) c.requires.new c.requires.says c.make_room.ensures.same notes)
