use Rattle.std.proofs.Common.{[], chars}
use Rattle.std.proofs.lemmas.Str.{chars-nil}
use Rattle.std.proofs.lemmas.Result.{on_ok_weaker}
use Rattle.edit_ops.proofs.Changes.{insert_op-allowed, delete_op-allowed, insert_op-made, delete_op-made, on_ok_both}
use Rattle.edit_ops.proofs.draft.Draft.make.Goals as goal

pub change-requires-clause-live : goal.change-requires-clause-live
change-requires-clause-live c =
    (insert_op-allowed c.args.self.now.document c.requires.plain c.args.op.now c.requires.plain_op c.requires.allowed c.in-InsertText.par c.in-InsertText.at c.in-InsertText.text (chars c.get.result.now) c.in-InsertText.is c.get.ensures).live

pub change-requires-clause-within : goal.change-requires-clause-within
change-requires-clause-within c =
    (insert_op-allowed c.args.self.now.document c.requires.plain c.args.op.now c.requires.plain_op c.requires.allowed c.in-InsertText.par c.in-InsertText.at c.in-InsertText.text (chars c.get.result.now) c.in-InsertText.is c.get.ensures).within

pub change-requires-clause-few : goal.change-requires-clause-few
change-requires-clause-few c =
    (insert_op-allowed c.args.self.now.document c.requires.plain c.args.op.now c.requires.plain_op c.requires.allowed c.in-InsertText.par c.in-InsertText.at c.in-InsertText.text (chars c.get.result.now) c.in-InsertText.is c.get.ensures).few

pub change-requires-in-DeleteRange-clause-live : goal.change-requires-in-DeleteRange-clause-live
change-requires-in-DeleteRange-clause-live c =
    (delete_op-allowed c.args.self.now.document c.requires.plain c.args.op.now c.requires.allowed c.in-DeleteRange.par c.in-DeleteRange.from c.in-DeleteRange.to (chars []) c.in-DeleteRange.is chars-nil).live

pub change-requires-in-DeleteRange-clause-order : goal.change-requires-in-DeleteRange-clause-order
change-requires-in-DeleteRange-clause-order c =
    (delete_op-allowed c.args.self.now.document c.requires.plain c.args.op.now c.requires.allowed c.in-DeleteRange.par c.in-DeleteRange.from c.in-DeleteRange.to (chars []) c.in-DeleteRange.is chars-nil).order

pub change-requires-in-DeleteRange-clause-within : goal.change-requires-in-DeleteRange-clause-within
change-requires-in-DeleteRange-clause-within c =
    (delete_op-allowed c.args.self.now.document c.requires.plain c.args.op.now c.requires.allowed c.in-DeleteRange.par c.in-DeleteRange.from c.in-DeleteRange.to (chars []) c.in-DeleteRange.is chars-nil).within

pub change-requires-in-DeleteRange-clause-few : goal.change-requires-in-DeleteRange-clause-few
change-requires-in-DeleteRange-clause-few c =
    (delete_op-allowed c.args.self.now.document c.requires.plain c.args.op.now c.requires.allowed c.in-DeleteRange.par c.in-DeleteRange.from c.in-DeleteRange.to (chars []) c.in-DeleteRange.is chars-nil).few

pub returns-in-InsertText-clause-made : goal.returns-in-InsertText-clause-made
returns-in-InsertText-clause-made c =
    on_ok_weaker c.change.result
    (insert_op-made c.args.self.now.document c.change.new.self.document c.requires.plain c.args.op.now c.requires.plain_op c.in-InsertText.par c.in-InsertText.at c.in-InsertText.text (chars c.get.result.now) c.in-InsertText.is c.get.ensures)
    c.change.ensures.changed

pub returns-in-InsertText-clause-plain : goal.returns-in-InsertText-clause-plain
returns-in-InsertText-clause-plain c =
    on_ok_weaker c.change.result
    ((insert_op-allowed c.args.self.now.document c.requires.plain c.args.op.now c.requires.plain_op c.requires.allowed c.in-InsertText.par c.in-InsertText.at c.in-InsertText.text (chars c.get.result.now) c.in-InsertText.is c.get.ensures).plain c.change.new.self.document)
    c.change.ensures.changed

pub returns-in-InsertText-clause-counted : goal.returns-in-InsertText-clause-counted
returns-in-InsertText-clause-counted c =
    on_ok_both c.change.result
    (λ changed counted. (insert_op-allowed c.args.self.now.document c.requires.plain c.args.op.now c.requires.plain_op c.requires.allowed c.in-InsertText.par c.in-InsertText.at c.in-InsertText.text (chars c.get.result.now) c.in-InsertText.is c.get.ensures).counted
    c.change.new.self.document c.args.self.now.items c.change.new.self.items changed c.requires.counted counted)
    c.change.ensures.changed c.change.ensures.counted

pub returns-in-DeleteRange-clause-made : goal.returns-in-DeleteRange-clause-made
returns-in-DeleteRange-clause-made c =
    on_ok_weaker c.change-in-DeleteRange.result
    (delete_op-made c.args.self.now.document c.change-in-DeleteRange.new.self.document c.requires.plain c.args.op.now c.in-DeleteRange.par c.in-DeleteRange.from c.in-DeleteRange.to (chars []) c.in-DeleteRange.is chars-nil)
    c.change-in-DeleteRange.ensures.changed

pub returns-in-DeleteRange-clause-plain : goal.returns-in-DeleteRange-clause-plain
returns-in-DeleteRange-clause-plain c =
    on_ok_weaker c.change-in-DeleteRange.result
    ((delete_op-allowed c.args.self.now.document c.requires.plain c.args.op.now c.requires.allowed c.in-DeleteRange.par c.in-DeleteRange.from c.in-DeleteRange.to (chars []) c.in-DeleteRange.is chars-nil).plain c.change-in-DeleteRange.new.self.document)
    c.change-in-DeleteRange.ensures.changed

pub returns-in-DeleteRange-clause-counted : goal.returns-in-DeleteRange-clause-counted
returns-in-DeleteRange-clause-counted c =
    on_ok_both c.change-in-DeleteRange.result
    (λ changed counted. (delete_op-allowed c.args.self.now.document c.requires.plain c.args.op.now c.requires.allowed c.in-DeleteRange.par c.in-DeleteRange.from c.in-DeleteRange.to (chars []) c.in-DeleteRange.is chars-nil).counted
    c.change-in-DeleteRange.new.self.document c.args.self.now.items c.change-in-DeleteRange.new.self.items changed c.requires.counted counted)
    c.change-in-DeleteRange.ensures.changed c.change-in-DeleteRange.ensures.counted
