-- A stop, a document type, or one more construct that says nothing.
use Rattle.std.proofs.Common.{ℕ, List, [], ◌∷◌, Some, chars, refl, ap, subst, inl, inr, arith, rules}
use Rattle.markup_tree.specs.Documents.{Spot}
use Rattle.markup_tree.specs.Pieces.{Silent, Ends, Holds, Declares, IsInProlog, line_ends}
use Rattle.markup_tree.specs.declared.part.Part.{Part}
use Rattle.markup_tree.proofs.ReaderLemmas.{read_fits, prolog_ends, prolog_holds, prolog_behind}
use Rattle.markup_tree.proofs.WayLemmas.{on_step, stopped_fault, refused_fault}
use Rattle.markup_tree.proofs.reader.to_root.Goals as goal

abbrev spot_at : Part → List ℕ → Spot
spot_at part rest = record { part = part; rest = rest; open_names = []; events = [] }

pub returns-in-Err-clause-fault : goal.returns-in-Err-clause-fault
returns-in-Err-clause-fault c =
    stopped_fault (chars c.args.whole.now) (spot_at c.prolog.part (chars c.prolog.rest.now)) c.in-Err.fault c.prolog.invariant.2 (λ e. subst IsInProlog e.0 c.prolog.invariant.0) c.in-Err.ensures.read c.stopped.ensures

pub returns-in-Doctype-clause-fault : goal.returns-in-Doctype-clause-fault
returns-in-Doctype-clause-fault c =
    refused_fault (chars c.args.whole.now) (spot_at c.prolog.part (chars c.prolog.rest.now)) {saying = Declares} c.prolog.invariant.2 (rw c.in-Doctype.is at c.in-Ok.ensures.read) refl c.offence_at.ensures c.place-in-Doctype.ensures.place

pub prolog-preserved : goal.prolog-preserved
prolog-preserved c =
    let spot = spot_at c.prolog.part (chars c.prolog.rest.now) in
    let before = prolog_behind c.prolog.part c.prolog.invariant.0 in (
      tt,
      omega (arith, c.in-Ok.ensures.shorter, c.prolog.invariant.1),
      elim c.in-Nothing.is [
        | inl is ↦ on_step (chars c.args.whole.now) spot Silent (chars c.in-Ok.found.1.now) (rw is at c.in-Ok.ensures.read) c.prolog.invariant.2 _
            (ap (λ (part : Part). Some (spot_at part (chars c.in-Ok.found.1.now))) before)
        | inr (inl end) ↦ absurd (prolog_ends c.prolog.part (chars end.0.now) c.prolog.invariant.0 (read_fits spot (Ends (chars end.0.now)) (rw end.1 at c.in-Ok.ensures.read)))
        | inr (inr (inl char)) ↦ absurd (prolog_holds c.prolog.part (char.0 ∷ []) c.prolog.invariant.0 (read_fits spot (Holds (char.0 ∷ [])) (rw char.1 at c.in-Ok.ensures.read)))
        | inr (inr (inr section)) ↦ absurd (prolog_holds c.prolog.part (line_ends (chars section.0.now)) c.prolog.invariant.0 (read_fits spot (Holds (line_ends (chars section.0.now))) (rw section.1 at c.in-Ok.ensures.read)))
      ],
      search rules,
    )
