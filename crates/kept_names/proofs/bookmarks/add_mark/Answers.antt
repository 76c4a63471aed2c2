use Rattle.std.proofs.Common.{◌≡◌, ◌∙◌, ◌++◌, ◌∷◌, [], ◌&&◌, not, List, true, false, sym, ap, subst, map}
use Rattle.std.proofs.lemmas.List.{map-append}
use Rattle.load_model.specs.Met.{MetMark}
use Rattle.met_read.specs.declared.things.MetMark.{MetMark as Read}
use Rattle.met_read.specs.Read.{mark_of}
use Rattle.kept_names.specs.Bookmarks.{Follows, after_mark, bookmark_in, is_met, is_whole, of_kind}
use Rattle.kept_names.proofs.MarkLemmas.{follows_kept, follows_dropped, put}
use Rattle.kept_names.proofs.bookmarks.add_mark.Goals as goal

pub returns-in_ok-push : goal.returns-in_ok-push
returns-in_ok-push c = λ before follows.
    let entries = c.args.bookmarks.now.entries in
    let key = c.as_text-name.result in
    let mark = c.args.mark in
    let old = c.args.kept.now.items in
    let e : c.insert.new.self.entries ≡ put entries key (after_mark mark.kind mark.text (bookmark_in entries key.now)) =
    c.in_ok-insert.ensures.entries ∙ ap (λ one. put entries key one) (c.after.ensures ∙ ap (after_mark mark.kind mark.text) c.bookmark_of-bookmark.ensures) in
    let taken : (not (is_met (of_kind mark.kind (bookmark_in entries key.now))) && not (is_whole (bookmark_in entries key.now))) ≡ true =
    ap (λ b. not (is_met (of_kind mark.kind b)) && not (is_whole b)) (sym c.bookmark_of-bookmark.ensures) ∙ sym c.takes.ensures ∙ c.if-takes.true in
    let P : List MetMark → Type 0 = λ kept. Follows c.insert.new.self.entries kept (before ++ mark_of mark ∷ []) in
    subst P (sym (ap (λ (all : List Read). map mark_of all) c.in_ok-push.ensures.items ∙ map-append mark_of old (mark ∷ [])))
    (follows_kept entries c.insert.new.self.entries key mark.place mark.text mark.kind mark.name.now before (map mark_of old) c.as_text-name.utf8 c.as_text-name.ensures.same follows e taken)

pub returns-else-takes : goal.returns-else-takes
returns-else-takes c = λ before follows.
    let entries = c.args.bookmarks.now.entries in
    let key = c.as_text-name.result in
    let mark = c.args.mark in
    let old = c.args.kept.now.items in
    let e : c.insert.new.self.entries ≡ put entries key (after_mark mark.kind mark.text (bookmark_in entries key.now)) =
    c.in_ok-insert.ensures.entries ∙ ap (λ one. put entries key one) (c.after.ensures ∙ ap (after_mark mark.kind mark.text) c.bookmark_of-bookmark.ensures) in
    let passed : (not (is_met (of_kind mark.kind (bookmark_in entries key.now))) && not (is_whole (bookmark_in entries key.now))) ≡ false =
    ap (λ b. not (is_met (of_kind mark.kind b)) && not (is_whole b)) (sym c.bookmark_of-bookmark.ensures) ∙ sym c.takes.ensures ∙ c.if-takes.false in
    follows_dropped entries c.insert.new.self.entries key mark.place mark.text mark.kind mark.name.now before (map mark_of old) c.as_text-name.utf8 c.as_text-name.ensures.same follows e passed
