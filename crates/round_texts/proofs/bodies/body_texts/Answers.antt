use Rattle.std.proofs.Common.{◌+◌, map, drop, sym, subst}
use Rattle.std.specs.List.{flat_map}
use Rattle.std.proofs.lemmas.List.{drop_all}
use Rattle.format_model.specs.Keys.{standing_with_notes}
use Rattle.doc_texts.specs.Places.{body_par}
use Rattle.round_texts.proofs.OfBodies.{BodiesLeft, all_read, left_behind, none_read, one_read}
use Rattle.round_texts.proofs.bodies.body_texts.Goals as goal

pub places-init : goal.places-init
places-init c = λ doc displays are h.
    subst (BodiesLeft doc c.args.places.now 0 c.args.pars.now) (sym c.in_ok-texts.ensures.items) (none_read doc c.args.places.now c.args.pars.now are h)

pub places-preserved : goal.places-preserved
places-preserved c = λ doc displays are h.
    let places = c.args.places.now in
    let at = c.places.place-index in
    let place = c.place-item.result in
    let rest = c.places.left.pars.now in
    let texts = c.places.texts.items in
    let left = c.places.invariant doc displays are h in
    let read = c.in_ok-text.ensures doc (flat_map (standing_with_notes doc) (map body_par (drop (at + 1) places))) displays (left_behind doc places at rest texts place c.place-item.is c.places-test.true left) in
    subst (BodiesLeft doc places (at + 1) c.body_text.new.left.pars.now) (sym c.in_ok-push.ensures.items)
    (one_read doc places at rest c.body_text.new.left.pars.now texts place c.in_ok-text.text c.place-item.is c.places-test.true left read.0 read.1)

pub returns : goal.returns
returns c = λ doc displays are h.
    all_read doc c.args.places.now c.places.place-index c.places.left.pars.now c.places.texts.items (drop_all c.places.place-index c.args.places.now c.places-test.false) are (c.places.invariant doc displays are h)
