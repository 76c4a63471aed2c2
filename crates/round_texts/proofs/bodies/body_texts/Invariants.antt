use Rattle.std.proofs.Common.{◌≡◌, map}
use Rattle.doc_model.specs.declared.document.Document.{Document}
use Rattle.key_parts.specs.Displays.{displays_of}
use Rattle.format_model.specs.Standing.{body_pars}
use Rattle.format_model.specs.Keys.{standing}
use Rattle.doc_texts.specs.Places.{body_par}
use Rattle.round_pars.specs.Pars.{AreRoundPars}
use Rattle.round_texts.proofs.OfBodies.{BodiesLeft}
use Rattle.round_texts.proofs.bodies.body_texts.Given as goal

abbrev pub invariant-places : goal.invariant-places
invariant-places l = (doc : Document) → l.displays ≡ displays_of doc.styles → map body_par l.places ≡ body_pars doc → AreRoundPars doc (standing doc) l.fn.pars
    → BodiesLeft doc l.places l.place-index l.left.pars.now l.texts.items
