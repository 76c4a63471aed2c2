use Rattle.std.proofs.Common.{◌≡◌, Bool, [], ◌∷◌, ◌++◌, length, ap, ◌∙◌, refl}
use Rattle.field_model.specs.declared.gathered.Piece.TheVariants.{Gap}
use Rattle.field_model.specs.declared.gathered.ParPlace.{ParPlace}
use Rattle.field_model.specs.Gathered.{is_in_note}
use Rattle.field_model.specs.Quotes.{pieces_and}
use Rattle.field_model.specs.Fields.{heads}
use Rattle.field_walk.specs.Lists.{run_in}
use Rattle.field_walk.specs.Steps.{places_behind}
use Rattle.field_walk.specs.declared.walk.Walk.{Walk}
use Rattle.field_walk.proofs.ReadLemmas.{head_read, pars_length}
use Rattle.field_walk.proofs.ForgetLemmas.{pars_same, removed}
use Rattle.field_walk.proofs.walk.Walk.read_head.Goals as goal

pub returns-in-Ok-clause-read : goal.returns-in-Ok-clause-read
returns-in-Ok-clause-read c = λ all h next.
    let p = c.in_ok-par.ensures all h in
    let noted : c.in_ok-par.par.in_note ≡ is_in_note c.args.place = ap (λ (par : ParPlace). par.in_note) p in
    let id : c.in_ok-par.par.id.0 ≡ c.args.head.now.id.0 = ap (λ (par : ParPlace). par.id.0) p in
    let heads_are : length c.args.self.now.pars.items ≡ heads all = pars_length c.args.self.now all h in
    rw (c.in_ok-next.ensures, c.enter-kept.ensures.rest, c.keep_par.ensures.rest, p) (head_read c.args.self.now all c.push.new.self (record c.enter-kept.new.self { pars = c.keep_par.new.self.pars; places = c.keep_par.new.self.places }) c.args.place c.args.head.now c.args.label.now h next
    (λ text. rw (← noted) (c.in_ok-push.ensures.ok text))
    (c.in-Ok.ensures.pars ∙ ap (λ (par : ParPlace). c.args.self.now.pars.items ++ par ∷ []) p)
    (λ asked. rw (← id, ← heads_are) (c.in-Ok.ensures.places asked))
    (c.enter-kept.ensures.places ∙ ap (λ (walk : Walk). places_behind c.args.place walk.note_places.items) c.keep_par.ensures.rest))

pub returns-in-Err-clause-read : goal.returns-in-Err-clause-read
returns-in-Err-clause-read c = λ all h next.
    let had : (noted : Bool) → run_in c.keep_par.new.self.runs noted ≡ pieces_and noted c.in_ok-par.par.in_note (run_in c.args.self.now.runs noted) (Gap ∷ []) = λ noted. ap (λ (walk : Walk). run_in walk.runs noted) c.keep_par.ensures.rest ∙ c.in_ok-push.ensures.ok noted in
    rw c.keep_par.ensures.rest (pars_same c.args.self.now c.keep_par.new.self all c.pop.new.self h c.in-Err.ensures.same_pars c.in-Err.ensures.same_places
    (λ noted. removed noted c.in_ok-par.par.in_note c.in_ok-par.par.in_note 1 _ _ _ (Gap ∷ []) refl (had noted) refl (c.pop.ensures noted)))
