use Rattle.std.proofs.Common.{◌++◌, List, refl, sym, ap, subst, ◌∙◌}
use Rattle.std.specs.Prelude.{true, unwrap_or}
use Rattle.std.specs.List.{flat_map}
use Rattle.doc_model.specs.declared.paragraph.Item.{Item}
use Rattle.doc_model.specs.declared.style.Props.{Props}
use Rattle.format_model.specs.Standing.{notes_from}
use Rattle.format_model.specs.Keys.{standing_in_note, standing_with_notes}
use Rattle.doc_texts.specs.Places.{body_par}
use Rattle.round_pars.specs.Pars.{AreRoundPars}
use Rattle.round_texts.specs.Texts.{AreNoteTexts}
use Rattle.round_texts.proofs.bodies.body_text.Goals as goal

pub returns : goal.returns
returns c = λ doc after displays h.
    let placed = body_par c.args.place.now in
    let rest = c.next_par.new.self.pars.now in
    let both = subst (AreRoundPars doc (standing_with_notes doc placed ++ after)) (sym c.in_ok-par.ensures) h in
    let otherwise = c.unwrap_or-otherwise.ensures ∙ ap (λ (props : Props). unwrap_or props.display true) both.0.props in
    let notes = c.in_ok-notes.ensures doc placed after displays otherwise
    (subst (λ (items : List Item). AreRoundPars doc (flat_map (standing_in_note placed) (notes_from doc placed.par 0 1 items) ++ after) rest) (sym c.as_slice-items.ensures) both.1) in (
      record {
        hidden = refl;
        par = both.0;
        notes = subst (λ (items : List Item). AreNoteTexts doc placed (notes_from doc placed.par 0 1 items) c.in_ok-notes.notes.items) c.as_slice-items.ensures notes.0;
      },
      notes.1,
    )
