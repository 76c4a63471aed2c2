use Rattle.std.proofs.Common.{None, refl}
use Rattle.name_index.proofs.Found.{sets_at, sets_bookmark, sets_section, sets_reference, sets_note}
use Rattle.name_index.proofs.index.NameIndex.drop_name.Goals as goal

pub returns-in-Bookmark : goal.returns-in-Bookmark
returns-in-Bookmark c =
    sets_at _ _ _ _ _ _ _ _ c.self.view_is c.in-Bookmark.is refl
    (sets_bookmark c.self.inside.bookmarks.entries c.self.inside.sections.entries c.self.inside.references.entries c.self.inside.notes.entries c.remove.new.names.entries c.args.name.now None c.remove.ensures.0)

pub returns-in-Section : goal.returns-in-Section
returns-in-Section c =
    sets_at _ _ _ _ _ _ _ _ c.self.view_is c.in-Section.is refl
    (sets_section c.self.inside.bookmarks.entries c.self.inside.sections.entries c.self.inside.references.entries c.self.inside.notes.entries c.remove-in-Section.new.names.entries c.args.name.now None c.remove-in-Section.ensures.0)

pub returns-in-Reference : goal.returns-in-Reference
returns-in-Reference c =
    sets_at _ _ _ _ _ _ _ _ c.self.view_is c.in-Reference.is refl
    (sets_reference c.self.inside.bookmarks.entries c.self.inside.sections.entries c.self.inside.references.entries c.self.inside.notes.entries c.remove-in-Reference.new.names.entries c.args.name.now None c.remove-in-Reference.ensures.0)

pub returns-in-Note : goal.returns-in-Note
returns-in-Note c =
    sets_at _ _ _ _ _ _ _ _ c.self.view_is c.in-Note.is refl
    (sets_note c.self.inside.bookmarks.entries c.self.inside.sections.entries c.self.inside.references.entries c.self.inside.notes.entries c.remove-in-Note.new.names.entries c.args.name.now None c.remove-in-Note.ensures.0)
