use Rattle.std.proofs.Common.{◌≡◌, ◌∙◌, [], List, sym, ap, map, get_or, subst, take, ℕ, ◌+◌}
use Rattle.load_model.specs.Met.{is_complete}
use Rattle.met_read.specs.declared.things.MarkKind.TheVariants as kind
use Rattle.met_read.specs.declared.things.MetMark.{MetMark as Read}
use Rattle.met_read.specs.Read.{mark_of}
use Rattle.kept_names.specs.Bookmarks.{completes}
use Rattle.kept_names.specs.Places.{AreSame}
use Rattle.kept_names.proofs.MarkLemmas.{complete_in, complete_kept, complete_left, is_complete_by}
use Rattle.kept_names.proofs.bookmarks.complete_places.Goals as goal
use Rattle.kept_names.proofs.bookmarks.complete_places.Goals.{then-completes+in_ok-add, else-completes}

pub loop-mark-preserved : goal.loop-mark-preserved
loop-mark-preserved c = λ marks follows.
    let kept = c.args.kept.now in
    let all = map mark_of kept in
    let i = c.loop-mark.mark-index in
    let none : Read = record { place = 0; text = 0; kind = kind.Whole; name = record { ref_ptr = (0, 0); now = [] } } in
    let mark = get_or kept i none in
    let is : is_complete all (mark_of mark) ≡ c.completes.result =
    sym (is_complete_by c.args.bookmarks.now.entries all marks c.as_text.result.now mark.name.now mark.place mark.text mark.kind c.as_text.utf8 c.as_text.ensures.same follows)
    ∙ ap (completes mark.kind mark.text) (sym c.bookmark_of-bookmark.ensures) ∙ sym c.completes.ensures in
    let P : List ℕ → Type 0 = λ places. AreSame places (complete_in all (map mark_of (take (i + 1) kept))) in
    elim c.if-completes.branch [
      | then-completes+in_ok-add w ↦
          subst P (sym w.places-is) (complete_kept all kept i none c.loop-mark.places w.add.new.self c.loop-mark-test.true (is ∙ w.if-completes.true) (c.loop-mark.invariant marks follows) w.in_ok-add.ensures)
      | else-completes w ↦
          subst P (sym w.places-is) (complete_left all kept i none c.loop-mark.places c.loop-mark-test.true (is ∙ w.if-completes.false) (c.loop-mark.invariant marks follows))
    ]
