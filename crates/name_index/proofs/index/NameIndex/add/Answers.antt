use Rattle.std.proofs.Common.{Some}
use Rattle.name_index.proofs.Found.{on_ok, sets_at, sets_bookmark, sets_section, sets_reference, sets_note}
use Rattle.name_index.proofs.index.NameIndex.add.Goals as goal

pub returns-in-Bookmark-clause-added : goal.returns-in-Bookmark-clause-added
returns-in-Bookmark-clause-added c =
    on_ok c.put.result c.put.ensures.updates
    (λ updates. sets_at _ _ _ _ _ _ _ _ c.self.view_is c.in-Bookmark.is c.in_ok-name.ensures
    (sets_bookmark c.self.inside.bookmarks.entries c.self.inside.sections.entries c.self.inside.references.entries c.self.inside.notes.entries c.put.new.names.entries c.in_ok-name.name (Some c.args.par) updates.0))

pub returns-in-Section-clause-added : goal.returns-in-Section-clause-added
returns-in-Section-clause-added c =
    on_ok c.put-in-Section.result c.put-in-Section.ensures.updates
    (λ updates. sets_at _ _ _ _ _ _ _ _ c.self.view_is c.in-Section.is c.in_ok-name.ensures
    (sets_section c.self.inside.bookmarks.entries c.self.inside.sections.entries c.self.inside.references.entries c.self.inside.notes.entries c.put-in-Section.new.names.entries c.in_ok-name.name (Some c.args.par) updates.0))

pub returns-in-Reference-clause-added : goal.returns-in-Reference-clause-added
returns-in-Reference-clause-added c =
    on_ok c.put-in-Reference.result c.put-in-Reference.ensures.updates
    (λ updates. sets_at _ _ _ _ _ _ _ _ c.self.view_is c.in-Reference.is c.in_ok-name.ensures
    (sets_reference c.self.inside.bookmarks.entries c.self.inside.sections.entries c.self.inside.references.entries c.self.inside.notes.entries c.put-in-Reference.new.names.entries c.in_ok-name.name (Some c.args.par) updates.0))

pub returns-in-Note-clause-added : goal.returns-in-Note-clause-added
returns-in-Note-clause-added c =
    on_ok c.put-in-Note.result c.put-in-Note.ensures.updates
    (λ updates. sets_at _ _ _ _ _ _ _ _ c.self.view_is c.in-Note.is c.in_ok-name.ensures
    (sets_note c.self.inside.bookmarks.entries c.self.inside.sections.entries c.self.inside.references.entries c.self.inside.notes.entries c.put-in-Note.new.names.entries c.in_ok-name.name (Some c.args.par) updates.0))
