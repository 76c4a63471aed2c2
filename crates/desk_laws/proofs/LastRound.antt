-- When all idle work is done, the lines of the last round are kept.
use Rattle.std.proofs.Common.{◌≡◌, ℕ, ◌+◌, Bool, true, false, List, [], ◌∷◌, refl, ap, sym, ◌∙◌, subst, Option, Some, None}
use Rattle.std.specs.Prelude.{◌==◌, if◌then◌else◌, map, find}
use Rattle.std.specs.Option.{option_map}
use Rattle.doc_model.specs.declared.document.Document.{Document}
use Rattle.doc_model.specs.declared.paragraph.Par.{Par}
use Rattle.doc_model.specs.Reading.{paragraphs, number_of}
use Rattle.line_model.specs.declared.key.Key.{Key}
use Rattle.desk_model.specs.declared.command.Command.{Command}
use Rattle.desk_model.specs.declared.reply.Reply.{Reply}
use Rattle.line_model.specs.Keys.{key_of}
use Rattle.round_model.specs.Rounds.{SetPar, set_in, last_round}
use Rattle.round_model.specs.Idle.{Idle, Live, live_at, live_after, is_in_use}
use Rattle.round_model.specs.Reached.{IsReached}
use Rattle.desk_model.specs.Desk.{State, present}
use Rattle.line_model.proofs.KeyLemmas.{is_same_key-refl}
use Rattle.desk_laws.specs.Steps.{reply_to, after}
use Rattle.desk_laws.specs.Changes.{is_change, has_paragraph, touched_at}
use Rattle.desk_laws.specs.Promises.{key_in, KeepsLines}
use Rattle.desk_laws.proofs.StepCases.{StepCase, step_case}
use Rattle.round_model.proofs.LiveLemmas.{renewed, live_at-live_after}

-- the paragraph that stays after a change
stays_live : (old : List Live) (doc : Document) (touched : List ℕ) (version number : ℕ) (live : Live) → live_at number old ≡ Some live → has_paragraph doc number ≡ true
    → live_at number (live_after old doc touched version) ≡ Some (renewed touched version number (Some live))
stays_live old doc touched version number live is has =
    live_at-live_after old doc touched version number
    ∙ ap (λ (there : Bool). if there then Some (renewed touched version number (live_at number old)) else None) has
    ∙ ap (λ (found : Option Live). Some (renewed touched version number found)) is

pub keys_stay : (state : State) (command : Command) (number : ℕ) (live : Live) → is_change (reply_to state command) ≡ true → live_at number state.idle.live ≡ Some live
    → has_paragraph (present (after state command)) number ≡ true → (later : Live) × (live_at number (after state command).idle.live ≡ Some later) × (later.keys ≡ live.keys)
keys_stay state command number live told is has = elim (step_case state command) [
  | StepCase.Stays other kept same turn ↦ absurd (let clash : false ≡ true = sym other ∙ told in cc)
  | StepCase.Changes past next more e ↦ (
    renewed (touched_at state command) (state.version + 1) number (Some live),
    ap (λ (t : Reply × State). live_at number t.1.idle.live) e
        ∙ stays_live state.idle.live past.present (touched_at state command) (state.version + 1) number live is (sym (ap (λ (t : Reply × State). has_paragraph (present t.1) number) e) ∙ has),
    refl,
  )
]

-- a paragraph that is set is live
set_live : (number : ℕ) (lives : List Live) (pars : List Par) (set : SetPar) → map (λ (live : Live). live.par) lives ≡ map number_of pars
    → find (λ (set : SetPar). set.par == number) (map (λ (par : Par). let set : SetPar = record { par = number_of par; key = key_of par } in set) pars) ≡ Some set
    → (live : Live) × (live_at number lives ≡ Some live)
set_live number [] [] set same e = absurd (let clash : None ≡ Some set = e in cc)
set_live number [] (par ∷ pars) set same e = absurd (cc)
set_live number (live ∷ lives) [] set same e = absurd (cc)
set_live number (live ∷ lives) (par ∷ pars) set same e =
    let first : live.par ≡ number_of par = cc in
    of_test (live.par == number) (ap (λ (n : ℕ). n == number) first) e (λ e. set_live number lives pars set (cc) e) where
      of_test : (here : Bool) → here ≡ (number_of par == number)
          → (if number_of par == number then Some (record { par = number_of par; key = key_of par })
          else find (λ (set : SetPar). set.par == number) (map (λ (par : Par). let set : SetPar = record { par = number_of par; key = key_of par } in set) pars)) ≡ Some set
          → (find (λ (set : SetPar). set.par == number) (map (λ (par : Par). let set : SetPar = record { par = number_of par; key = key_of par } in set) pars) ≡ Some set
          → (live : Live) × (live_at number lives ≡ Some live))
          → (found : Live) × ((if here then Some live else live_at number lives) ≡ Some found)
      of_test true is e more = (live, refl)
      of_test false is e more = more (ap (λ (test : Bool). if test then Some (record { par = number_of par; key = key_of par })
          else find (λ (set : SetPar). set.par == number) (map (λ (par : Par). let set : SetPar = record { par = number_of par; key = key_of par } in set) pars)) is ∙ e)

-- without debt the keys of the last round are in use
in_use_at_end : (doc : Document) (debt number : ℕ) (set : SetPar) → debt ≡ 0 → find (λ (set : SetPar). set.par == number) (set_in doc (last_round doc)) ≡ Some set
    → is_in_use doc debt number set.key ≡ true
in_use_at_end doc debt number set done e = subst (λ (debt : ℕ). is_in_use doc debt number set.key ≡ true) (sym done) (rw (e, is_in_use) (is_same_key-refl set.key))

pub last_round_kept : (doc : Document) (idle : Idle) → IsReached doc idle → idle.debt ≡ 0 → (number : ℕ) (key : Key) → key_in doc (last_round doc) number ≡ Some key → KeepsLines idle number key
last_round_kept doc idle reached done number key told = of_set (find (λ (set : SetPar). set.par == number) (set_in doc (last_round doc))) refl told where
  of_set : (set : Option SetPar) → find (λ (set : SetPar). set.par == number) (set_in doc (last_round doc)) ≡ set → option_map (λ (set : SetPar). set.key) set ≡ Some key → KeepsLines idle number key
  of_set None is e = absurd (let clash : None ≡ Some key = e in cc)
  of_set (Some set) is e =
      let same : set.key ≡ key = cc in
      let there = set_live number idle.live (paragraphs doc) set reached.live is in
      (there.0, there.1, reached.used number key there.0 (subst (λ (key : Key). is_in_use doc idle.debt number key ≡ true) same (in_use_at_end doc idle.debt number set done is)) there.1)
