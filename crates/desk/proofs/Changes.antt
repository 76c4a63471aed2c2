-- What a change of the past leaves, and what the machine makes of it.
use Rattle.std.proofs.Common.{◌≡◌, ℕ, Bool, List, [], ◌∷◌, ap, sym, ◌∙◌, subst, Some}
use Rattle.std.specs.Prelude.{map}
use Rattle.std.specs.List.{AllByRecursion as Each}
use Rattle.doc_model.specs.declared.document.Document.{Document}
use Rattle.edit_model.specs.Past.{Past, Entry, after_group, after_undo, after_redo}
use Rattle.doc_model.specs.Plain.{IsPlain}
use Rattle.doc_model.specs.Reading.{paragraphs, number_of}
use Rattle.round_model.specs.Stops.{paragraph_count}
use Rattle.round_model.specs.Idle.{Idle}
use Rattle.round_model.specs.Reached.{IsReached}
use Rattle.desk.specs.PlainPast.{IsPlainPast}
use Rattle.desk.specs.DeskState.{HasOneCount, IsDeskState}
use Rattle.desk.proofs.Numbers.{same_numbers}
use Rattle.desk.proofs.PlainPasts.{IsPlainPast-after_group, Each-take}

-- a past behind another one: it is as plain, and its documents are as long
pub record Follows (old new : Past) : Type 0 where
  pub plain : IsPlainPast new
  pub counts : HasOneCount new
  pub count : paragraph_count new.present ≡ paragraph_count old.present

counts_move : (from to : ℕ) (entries : List Entry) → from ≡ to → Each (λ (entry : Entry). paragraph_count entry.document ≡ from) entries → Each (λ (entry : Entry). paragraph_count entry.document ≡ to) entries
counts_move from to entries e each = subst (λ (n : ℕ). Each (λ (entry : Entry). paragraph_count entry.document ≡ n) entries) e each

undo_of : (present : Document) (earlier undone : List Entry) (new : Past) → IsPlainPast (record { present = present; earlier = earlier; undone = undone }) → HasOneCount (record { present = present; earlier = earlier; undone = undone })
    → after_undo (record { present = present; earlier = earlier; undone = undone }) ≡ Some new → Follows (record { present = present; earlier = earlier; undone = undone }) new
undo_of present [] undone new plain counts e = absurd (cc)
undo_of present (entry ∷ earlier) undone new plain counts e =
    let same : record { present = entry.document; earlier = earlier; undone = record entry { document = present } ∷ undone } ≡ new = cc in
    subst (Follows (record { present = present; earlier = entry ∷ earlier; undone = undone })) same (record {
      plain = record { present = plain.earlier.0; earlier = plain.earlier.1; undone = (plain.present, plain.undone) };
      counts = record {
        earlier = counts_move (paragraph_count present) (paragraph_count entry.document) earlier (sym counts.earlier.0) counts.earlier.1;
        undone = (sym counts.earlier.0, counts_move (paragraph_count present) (paragraph_count entry.document) undone (sym counts.earlier.0) counts.undone);
      };
      count = counts.earlier.0;
    })

pub after_undo-follows : (old new : Past) → IsPlainPast old → HasOneCount old → after_undo old ≡ Some new → Follows old new
after_undo-follows old new plain counts e = undo_of old.present old.earlier old.undone new plain counts e

redo_of : (present : Document) (earlier undone : List Entry) (new : Past) → IsPlainPast (record { present = present; earlier = earlier; undone = undone }) → HasOneCount (record { present = present; earlier = earlier; undone = undone })
    → after_redo (record { present = present; earlier = earlier; undone = undone }) ≡ Some new → Follows (record { present = present; earlier = earlier; undone = undone }) new
redo_of present earlier [] new plain counts e = absurd (cc)
redo_of present earlier (entry ∷ undone) new plain counts e =
    let same : record { present = entry.document; earlier = record entry { document = present } ∷ earlier; undone = undone } ≡ new = cc in
    subst (Follows (record { present = present; earlier = earlier; undone = entry ∷ undone })) same (record {
      plain = record { present = plain.undone.0; earlier = (plain.present, plain.earlier); undone = plain.undone.1 };
      counts = record {
        earlier = (sym counts.undone.0, counts_move (paragraph_count present) (paragraph_count entry.document) earlier (sym counts.undone.0) counts.earlier);
        undone = counts_move (paragraph_count present) (paragraph_count entry.document) undone (sym counts.undone.0) counts.undone.1;
      };
      count = counts.undone.0;
    })

pub after_redo-follows : (old new : Past) → IsPlainPast old → HasOneCount old → after_redo old ≡ Some new → Follows old new
after_redo-follows old new plain counts e = redo_of old.present old.earlier old.undone new plain counts e

after_group-follows : (past : Past) (doc : Document) (touched : List ℕ) (restyling : Bool) → IsPlain doc → paragraph_count doc ≡ paragraph_count past.present → IsPlainPast past → HasOneCount past
    → Follows past (after_group past doc touched restyling)
after_group-follows past doc touched restyling plain count held counts = record {
  plain = IsPlainPast-after_group past doc touched restyling plain held;
  counts = record {
    earlier = Each-take (λ (entry : Entry). paragraph_count entry.document ≡ paragraph_count doc) 256 (record { document = past.present; touched = touched; restyling = restyling } ∷ past.earlier)
        (sym count, counts_move (paragraph_count past.present) (paragraph_count doc) past.earlier (sym count) counts.earlier);
    undone = tt;
  };
  count = count;
}

pub follows_group : (old new : Past) (idle : Idle) (doc : Document) (touched : List ℕ) (restyling : Bool) → IsDeskState old idle → IsPlain doc → paragraph_count doc ≡ paragraph_count old.present
    → new ≡ after_group old doc touched restyling → Follows old new
follows_group old new idle doc touched restyling held plain count e = subst (Follows old) (sym e) (after_group-follows old doc touched restyling plain count held.plain held.counts)

-- the live paragraphs are those of a past behind it
pub numbers_behind : (old new : Past) (idle : Idle) (next : Document) → IsDeskState old idle → Follows old new → next ≡ new.present → map (λ live. live.par) idle.live ≡ map number_of (paragraphs next)
numbers_behind old new idle next held follows e =
    held.reached.live ∙ same_numbers old.present new.present held.plain.present follows.plain.present follows.count ∙ ap (λ (d : Document). map number_of (paragraphs d)) (sym e)

-- the state with a past behind it and idle work that is reached there
pub state_behind : (old new : Past) (idle : Idle) (next : Document) → Follows old new → next ≡ new.present → IsReached next idle → IsDeskState new idle
state_behind old new idle next follows e reached = record { plain = follows.plain; counts = follows.counts; reached = subst (λ (d : Document). IsReached d idle) e reached }
