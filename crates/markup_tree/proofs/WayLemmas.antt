-- From one spot of a text to the next, and where reading ends.
use Rattle.std.proofs.Common.{◌≡◌, ℕ, List, [], ◌∷◌, ◌++◌, refl, ap, sym, ◌∙◌, subst, Some, None}
use Rattle.std.proofs.lemmas.List.{append-nil}
use Rattle.markup_parts.specs.Outcomes.{IsRead}
use Rattle.markup_parts.specs.declared.stop.Stop.TheVariants.{Broken, Cut, Refused}
use Rattle.markup_tags.specs.Attempts.{ReadsUnlessMemory, fault_outcome}
use Rattle.markup_tags.specs.declared.fault.Fault.{Fault}
use Rattle.markup_tags.specs.declared.fault.Fault.TheVariants as unread
use Rattle.markup_tree.specs.Documents.{Spot, Follows, Leads, Reaches, broken, unnamed, refused, cut, start_of, place_of, byte_count, behind, refusal}
use Rattle.markup_tree.specs.Pieces.{Saying, IsConstruct}
use Rattle.markup_tree.specs.Stacks.{fault_of, IsFaultOf}
use Rattle.markup_tree.specs.declared.part.Part.TheVariants.{After}
use Rattle.markup_tree.specs.declared.reader.ReadFault.{ReadFault}
use Rattle.markup_tree.specs.declared.reader.ReadFault.TheVariants as fault

-- one more construct
pub leads_more : (whole : List ℕ) (spot : Spot) (between : List Spot) (last next : Spot) → Leads whole spot between last → Follows whole last next → Leads whole spot (between ++ next ∷ []) next
leads_more whole spot [] last next e f = (subst (λ (s : Spot). Follows whole s next) (sym e) f, refl)
leads_more whole spot (s ∷ ss) last next l f = (l.0, leads_more whole s ss last next l.1 f)

-- what is read stands there
pub stands : (spot : Spot) (saying : Saying) (rest : List ℕ) → IsRead (IsConstruct spot.part) spot.rest saying rest → IsConstruct spot.part spot.rest (Some saying) rest
stands spot saying rest r =
    subst (λ (t : List ℕ). IsConstruct spot.part t (Some saying) rest) (append-nil spot.rest)
    (subst (λ (t : List ℕ). IsConstruct spot.part (spot.rest ++ []) (Some saying) t) (append-nil rest) (r.is []))

-- a construct that is read leads on
pub on_step : (whole : List ℕ) (spot : Spot) (saying : Saying) (rest : List ℕ) → IsRead (IsConstruct spot.part) spot.rest saying rest → Reaches whole spot
    → (next : Spot) → behind (place_of whole spot.rest) spot saying rest ≡ Some next → Reaches whole next
on_step whole spot saying rest r w next on =
    (w.0 ++ next ∷ [], leads_more whole (start_of whole) w.0 spot next w.1 (saying, rest, stands spot saying rest r, on))

-- one that isn't read is the first offence
pub stopped_fault : (whole : List ℕ) (spot : Spot) {told : ReadFault} (why : Fault) → Reaches whole spot → ((spot.part ≡ After) × (spot.rest ≡ []) → ⊥)
    → ReadsUnlessMemory (IsConstruct spot.part) spot.rest (fault_outcome why) → told ≡ fault_of why (place_of whole spot.rest) (byte_count whole) → IsFaultOf whole told
stopped_fault whole spot {told} why w never r e = subst (IsFaultOf whole) (sym e) (go why r) where
  go : (why : Fault) → ReadsUnlessMemory (IsConstruct spot.part) spot.rest (fault_outcome why) → IsFaultOf whole (fault_of why (place_of whole spot.rest) (byte_count whole))
  go (unread.Stopped Broken) r = record { spot = spot; reached = w; stops = broken r _ refl }
  go (unread.Stopped Cut) r =
      record { spot = spot; reached = w; stops = cut (record { none = r.none; more = r.more ++ []; value = r.value; after = []; whole = r.whole [] }) never _ refl }
  go (unread.Stopped Refused) r = record { spot = spot; reached = w; stops = unnamed r.after here _ refl } where
    here : IsConstruct spot.part spot.rest None r.after
    here = subst (λ (t : List ℕ). IsConstruct spot.part t None r.after) (append-nil spot.rest)
        (subst (λ (t : List ℕ). IsConstruct spot.part (spot.rest ++ []) None t) (append-nil r.after) (r.is []))
  go unread.NoMemory r = tt

-- so is one that is refused for what it says
pub refused_fault : (whole : List ℕ) (spot : Spot) {saying : Saying} {rest : List ℕ} {told : ReadFault} {place : ℕ} → Reaches whole spot → IsRead (IsConstruct spot.part) spot.rest saying rest
    → behind (place_of whole spot.rest) spot saying rest ≡ None → told ≡ fault.Offence (record { kind = refusal saying; place = place }) → place ≡ place_of whole spot.rest → IsFaultOf whole told
refused_fault whole spot {saying} {rest} {told} {place} w r none e at =
    subst (IsFaultOf whole) (sym (e ∙ ap (λ (p : ℕ). fault.Offence (record { kind = refusal saying; place = p })) at))
    (record { spot = spot; reached = w; stops = refused saying rest (stands spot saying rest r) none _ refl })
