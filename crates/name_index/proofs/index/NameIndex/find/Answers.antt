use Rattle.std.proofs.Common.{◌∙◌}
use Rattle.name_index.proofs.Found.{found_at}
use Rattle.name_index.proofs.Scanned.{found_is_scanned}
use Rattle.name_index.proofs.index.NameIndex.find.Goals as goal

pub returns-in-Bookmark-clause-there : goal.returns-in-Bookmark-clause-there
returns-in-Bookmark-clause-there c = found_at c.self.inside.bookmarks.entries c.self.inside.sections.entries c.self.inside.references.entries c.self.inside.notes.entries c.args.self.now c.args.kind _ c.args.name.now c.paragraph_of.result
    c.self.view_is c.in-Bookmark.is c.paragraph_of.ensures

pub returns-in-Bookmark-clause-scan : goal.returns-in-Bookmark-clause-scan
returns-in-Bookmark-clause-scan c = λ doc agree. found_at c.self.inside.bookmarks.entries c.self.inside.sections.entries c.self.inside.references.entries c.self.inside.notes.entries c.args.self.now c.args.kind _ c.args.name.now c.paragraph_of.result
    c.self.view_is c.in-Bookmark.is c.paragraph_of.ensures
    ∙ agree c.args.kind c.args.name.now ∙ found_is_scanned doc c.args.kind c.args.name.now

pub returns-in-Section-clause-there : goal.returns-in-Section-clause-there
returns-in-Section-clause-there c = found_at c.self.inside.bookmarks.entries c.self.inside.sections.entries c.self.inside.references.entries c.self.inside.notes.entries c.args.self.now c.args.kind _ c.args.name.now c.paragraph_of-in-Section.result
    c.self.view_is c.in-Section.is c.paragraph_of-in-Section.ensures

pub returns-in-Section-clause-scan : goal.returns-in-Section-clause-scan
returns-in-Section-clause-scan c = λ doc agree. found_at c.self.inside.bookmarks.entries c.self.inside.sections.entries c.self.inside.references.entries c.self.inside.notes.entries c.args.self.now c.args.kind _ c.args.name.now c.paragraph_of-in-Section.result
    c.self.view_is c.in-Section.is c.paragraph_of-in-Section.ensures
    ∙ agree c.args.kind c.args.name.now ∙ found_is_scanned doc c.args.kind c.args.name.now

pub returns-in-Reference-clause-there : goal.returns-in-Reference-clause-there
returns-in-Reference-clause-there c = found_at c.self.inside.bookmarks.entries c.self.inside.sections.entries c.self.inside.references.entries c.self.inside.notes.entries c.args.self.now c.args.kind _ c.args.name.now c.paragraph_of-in-Reference.result
    c.self.view_is c.in-Reference.is c.paragraph_of-in-Reference.ensures

pub returns-in-Reference-clause-scan : goal.returns-in-Reference-clause-scan
returns-in-Reference-clause-scan c = λ doc agree. found_at c.self.inside.bookmarks.entries c.self.inside.sections.entries c.self.inside.references.entries c.self.inside.notes.entries c.args.self.now c.args.kind _ c.args.name.now c.paragraph_of-in-Reference.result
    c.self.view_is c.in-Reference.is c.paragraph_of-in-Reference.ensures
    ∙ agree c.args.kind c.args.name.now ∙ found_is_scanned doc c.args.kind c.args.name.now

pub returns-in-Note-clause-there : goal.returns-in-Note-clause-there
returns-in-Note-clause-there c = found_at c.self.inside.bookmarks.entries c.self.inside.sections.entries c.self.inside.references.entries c.self.inside.notes.entries c.args.self.now c.args.kind _ c.args.name.now c.paragraph_of-in-Note.result
    c.self.view_is c.in-Note.is c.paragraph_of-in-Note.ensures

pub returns-in-Note-clause-scan : goal.returns-in-Note-clause-scan
returns-in-Note-clause-scan c = λ doc agree. found_at c.self.inside.bookmarks.entries c.self.inside.sections.entries c.self.inside.references.entries c.self.inside.notes.entries c.args.self.now c.args.kind _ c.args.name.now c.paragraph_of-in-Note.result
    c.self.view_is c.in-Note.is c.paragraph_of-in-Note.ensures
    ∙ agree c.args.kind c.args.name.now ∙ found_is_scanned doc c.args.kind c.args.name.now
