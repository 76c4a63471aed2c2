-- One name after another is looked up among those after it.
use Rattle.std.proofs.Common.{◌+◌, refl, sym, ap, ◌∙◌, subst, drop_of_length-le}
use Rattle.std.proofs.lemmas.List.{take_rest}
use Rattle.std.specs.Prelude.{string_bytes}
use Rattle.quill_io.specs.MemShelf.{HasDistinctNames, files_of}
use Rattle.quill_io.proofs.Names.{is_some-found, HasDistinctNames-nil, HasDistinctNames-cons, not_HasDistinctNames-cons, files_of-drop}
use Rattle.quill_io.proofs.mem_shelf.has_distinct_names.Goals as goal

pub returns-then-is_some : goal.returns-then-is_some
returns-then-is_some c =
    let place = c.loop-place.place in
    let split = files_of-drop c.args.files.now place c.index-files-place.result c.loop-place-test.true c.index-files-place.is in
    let found = rw (take_rest c.args.files.now (place + 1), c.as_str.ensures.value) at c.find.ensures in
    let first = c.index-files-place.result in
    let again = is_some-found _ _ found ∙ sym c.is_some.ensures ∙ c.if-is_some.true in
    ((λ h. absurd (cc)), (λ h. absurd (not_HasDistinctNames-cons (string_bytes first.0, first.1.items) _ again (subst HasDistinctNames split (c.loop-place.invariant.0 h)))))

pub loop-place-preserved : goal.loop-place-preserved
loop-place-preserved c =
    let place = c.loop-place.place in
    let split = files_of-drop c.args.files.now place c.index-files-place.result c.loop-place-test.true c.index-files-place.is in
    let found = rw (take_rest c.args.files.now (place + 1), c.as_str.ensures.value) at c.find.ensures in
    let first = c.index-files-place.result in
    let unlike = HasDistinctNames-cons (string_bytes first.0, first.1.items) _ (is_some-found _ _ found ∙ sym c.is_some.ensures ∙ c.if-is_some.false) in
    ((λ h. unlike.0 (subst HasDistinctNames split (c.loop-place.invariant.0 h))), (λ h. c.loop-place.invariant.1 (subst HasDistinctNames (sym split) (unlike.1 h))))

pub returns : goal.returns
returns c =
    let none = ap files_of (drop_of_length-le c.args.files.now c.loop-place-test.false) in
    ((λ _. c.loop-place.invariant.1 (subst HasDistinctNames (sym none) HasDistinctNames-nil)), (λ _. refl))
