-- The first uses of names.
use Rattle.std.proofs.Common.{◌≡◌, ℕ, ◌+◌, ◌<◌, ◌∙◌, not, ◌||◌, Bool, true, false, cond, List, [], ◌∷◌, ◌++◌, length, map, take, get_or, refl, sym, ap, ap₂, Option}
use Rattle.std.specs.List.{list_any, cons_option}
use Rattle.std.specs.Str.{bytes_eq}
use Rattle.std.proofs.lemmas.List.{map-append, append-nil, append_assoc, take_more}
use Rattle.std.proofs.lemmas.List.Elements.{filter_map-append}
use Rattle.std.proofs.lemmas.List.Folds.{list_any-append}
use Rattle.std.proofs.lemmas.Bool.{or_parts}
use Rattle.load_model.specs.Left.{is_one_of}
use Rattle.load_model.specs.Met.{Met, MetName, Section, Note, Reference, Mark, Sequence, Variable, Table}
use Rattle.met_read.specs.declared.things.Met.{Met as Lent}
use Rattle.met_read.specs.declared.things.MetName.{MetName as Read}
use Rattle.met_read.specs.Read.{met_of, name_of, outlined}
use Rattle.sheet_kept.proofs.Firsts.{first_passes, first_fails}
use Rattle.declared_names.specs.Used.{used_in, names_used, fields_of, first_uses, Uses}
use Rattle.declared_names.proofs.FirstLemmas.{through, any_name}

one_of_both : (some more : List (List ℕ)) (name : List ℕ) → is_one_of (some ++ more) name ≡ (is_one_of some name || is_one_of more name)
one_of_both some more name = list_any-append (λ other. bytes_eq other name) some more

-- one use more
module _ (stated : List (List ℕ)) (before : List MetName) (names : List (List ℕ)) (used : List Read) (uses : Uses stated before names used) (one : MetName) where
  abbrev known : Bool
  known = list_any (λ (other : MetName). bytes_eq other.name one.name) (first_uses stated before)

  abbrev is_new : MetName → Bool
  is_new field = not (is_one_of stated field.name)

  is_there : is_one_of names one.name ≡ (is_one_of stated one.name || known)
  is_there =
      ap (λ some. is_one_of some one.name) uses.names_are ∙ one_of_both stated (map (λ (other : MetName). other.name) (first_uses stated before)) one.name
      ∙ ap (λ b. is_one_of stated one.name || b) (any_name (λ (other : MetName). other.name) (first_uses stated before) one.name)

  passes : is_one_of stated one.name ≡ false → (b : Bool) → known ≡ b → first_uses stated (before ++ one ∷ []) ≡ cond b (first_uses stated before) (first_uses stated before ++ one ∷ [])
  passes e b f =
      first_passes (λ (x y : MetName). bytes_eq x.name y.name) (λ x y z e f. through x.name y.name z.name e f) is_new before one (ap not e)
      ∙ ap (λ b. cond b (first_uses stated before) (first_uses stated before ++ one ∷ [])) f

  fails : is_one_of stated one.name ≡ true → first_uses stated (before ++ one ∷ []) ≡ first_uses stated before
  fails e = first_fails (λ (x y : MetName). bytes_eq x.name y.name) (λ x y z e f. through x.name y.name z.name e f) is_new before one (ap not e)

  same_uses : is_one_of names one.name ≡ true → first_uses stated (before ++ one ∷ []) ≡ first_uses stated before
  same_uses e = by_stated (is_one_of stated one.name) refl (sym is_there ∙ e) where
    by_stated : (b : Bool) → is_one_of stated one.name ≡ b → (is_one_of stated one.name || known) ≡ true → first_uses stated (before ++ one ∷ []) ≡ first_uses stated before
    by_stated true s h = fails s
    by_stated false s h = passes s true (sym (ap (λ b. b || known) s) ∙ h)

  pub used_again : is_one_of names one.name ≡ true → Uses stated (before ++ one ∷ []) names used
  used_again e = record {
    names_are = uses.names_are ∙ ap (λ (some : List MetName). stated ++ map (λ (other : MetName). other.name) some) (sym (same_uses e));
    used_are = uses.used_are ∙ sym (same_uses e);
  }

  pub used_new : (later : List Read) (read : Read) → is_one_of names one.name ≡ false → later ≡ used ++ read ∷ [] → name_of read ≡ one → Uses stated (before ++ one ∷ []) (names ++ one.name ∷ []) later
  used_new later read e pushed is =
      let parts = or_parts (is_one_of stated one.name) known (sym is_there ∙ e) in
      let more : first_uses stated (before ++ one ∷ []) ≡ first_uses stated before ++ one ∷ [] = passes parts.0 false parts.1 in
      record {
        names_are = ap (λ some. some ++ one.name ∷ []) uses.names_are ∙ append_assoc stated (map (λ (other : MetName). other.name) (first_uses stated before)) (one.name ∷ [])
            ∙ ap (λ some. stated ++ some) (sym (map-append (λ (other : MetName). other.name) (first_uses stated before) (one ∷ [])))
            ∙ ap (λ (some : List MetName). stated ++ map (λ (other : MetName). other.name) some) (sym more);
        used_are = ap (map name_of) pushed ∙ map-append name_of used (read ∷ []) ∙ ap₂ (λ (some : List MetName) (last : MetName). some ++ last ∷ []) uses.used_are is ∙ sym more;
      }

pub uses_none : (stated : List (List ℕ)) → Uses stated [] stated []
uses_none stated = record { names_are = sym (append-nil stated); used_are = refl }

-- one thing more that is met
pub used_more : (sequences : Bool) (met : List Lent) (i : ℕ) (d : Lent) → i < length met
    → names_used sequences (map met_of (take (i + 1) met)) ≡ names_used sequences (map met_of (take i met)) ++ cons_option (used_in sequences (met_of (get_or met i d))) []
used_more sequences met i d h =
    ap (λ (some : List Lent). names_used sequences (map met_of some)) (take_more met i d h) ∙ ap (names_used sequences) (map-append met_of (take i met) (get_or met i d ∷ []))
    ∙ filter_map-append (used_in sequences) (map met_of (take i met)) (met_of (get_or met i d) ∷ [])

-- what is met of a kind, by the definition's own words
fields_are : (sequences : Bool) (met : List Met) → fields_of sequences met ≡ names_used sequences met
fields_are true [] = refl
fields_are true (Sequence field ∷ met) = ap (λ (more : List MetName). field ∷ more) (fields_are true met)
fields_are true (Section one ∷ met) = fields_are true met
fields_are true (Mark one ∷ met) = fields_are true met
fields_are true (Note one ∷ met) = fields_are true met
fields_are true (Reference one ∷ met) = fields_are true met
fields_are true (Variable one ∷ met) = fields_are true met
fields_are true (Table one ∷ met) = fields_are true met
fields_are false [] = refl
fields_are false (Variable field ∷ met) = ap (λ (more : List MetName). field ∷ more) (fields_are false met)
fields_are false (Section one ∷ met) = fields_are false met
fields_are false (Mark one ∷ met) = fields_are false met
fields_are false (Note one ∷ met) = fields_are false met
fields_are false (Reference one ∷ met) = fields_are false met
fields_are false (Sequence one ∷ met) = fields_are false met
fields_are false (Table one ∷ met) = fields_are false met

name_alike : (sequences : Bool) (one : Met) → used_in sequences (outlined one) ≡ used_in sequences one
name_alike true (Section section) = refl
name_alike false (Section section) = refl
name_alike sequences (Mark one) = refl
name_alike sequences (Note one) = refl
name_alike sequences (Reference one) = refl
name_alike sequences (Sequence one) = refl
name_alike sequences (Variable one) = refl
name_alike sequences (Table one) = refl

names_alike : (sequences : Bool) (met : List Met) → names_used sequences (map outlined met) ≡ names_used sequences met
names_alike sequences [] = refl
names_alike sequences (one ∷ met) = ap₂ (λ (o : Option MetName) (more : List MetName). cons_option o more) (name_alike sequences one) (names_alike sequences met)

pub fields_by : (sequences : Bool) (read : List Lent) (things : List Met) → map met_of read ≡ map outlined things → names_used sequences (map met_of read) ≡ fields_of sequences things
fields_by sequences read things same = ap (names_used sequences) same ∙ names_alike sequences things ∙ sym (fields_are sequences things)
