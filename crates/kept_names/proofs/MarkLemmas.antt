-- Bookmarks by what came of their marks.
use Rattle.std.proofs.Common.{◌≡◌, ℕ, ◌+◌, ◌<◌, ◌==◌, ◌&&◌, ◌||◌, not, Bool, true, false, cond, List, [], ◌∷◌, ◌++◌, length, map, take, get_or, refl, sym, ap, ap₂, ◌∙◌, append-nil, append_assoc, Option, Some, None, Bor, subst, unwrap_or, IsTrue}
use Rattle.std.proofs.lemmas.Bool.{false≢true, true≢false}
use Rattle.std.proofs.lemmas.List.{map-append, take_more}
use Rattle.std.proofs.lemmas.List.Elements.{filter-append, filter_map-append}
use Rattle.std.proofs.lemmas.List.Folds.{list_any-append}
use Rattle.std.proofs.lemmas.Slice.Eq.{bytes_eq-Decides}
use Rattle.std.specs.List.{list_any, filter, filter_map, cons_option}
use Rattle.std.specs.Map.{lookup}
use Rattle.std.specs.Str.{bytes_eq, IsUtf8, chars}
use Rattle.indexmap.specs.IndexMap.{insert_entry}
use Rattle.load_model.specs.Met.{Met, MetMark, MarkKind, Whole, Start, End, Section, Note, Reference, Mark, Sequence, Variable, Table, is_at, is_mark, is_partner, is_same_mark_kind, has_whole, new_marks, is_complete, marks_met}
use Rattle.met_read.specs.declared.things.MarkKind.{MarkKind as Kind}
use Rattle.met_read.specs.declared.things.MarkKind.TheVariants as kind
use Rattle.met_read.specs.declared.things.Met.{Met as Read}
use Rattle.met_read.specs.declared.things.MetMark.{MetMark as ReadMark}
use Rattle.met_read.specs.Read.{kind_of, mark_of, met_of, outlined}
use Rattle.kept_names.specs.declared.bookmarks.Came.{Came}
use Rattle.kept_names.specs.declared.bookmarks.Came.TheVariants as came
use Rattle.kept_names.specs.declared.bookmarks.Bookmark.{Bookmark}
use Rattle.kept_names.specs.Bookmarks.{is_met, is_kept, is_in, is_whole, has_start, next, of_kind, with_kind, after_mark, completes, is_mark_in, Knows, mark_in, bookmark_in, Tells, Follows, never, complete_places}
use Rattle.kept_names.specs.Places.{AreSame}
use Rattle.kept_names.proofs.FirstLemmas.{places_behind, either_number, either_text, or_false, bytes_same, same_name}

any_same : {X : Type 0} (p q : X → Bool) → ((x : X) → p x ≡ q x) → (xs : List X) → list_any p xs ≡ list_any q xs
any_same p q same [] = refl
any_same p q same (x ∷ xs) = ap₂ (λ a b. a || b) (same x) (any_same p q same xs)

any_never : {X : Type 0} (xs : List X) → list_any (λ x. false) xs ≡ false
any_never [] = refl
any_never (x ∷ xs) = any_never xs

bytes_self : (xs : List ℕ) → bytes_eq xs xs ≡ true
bytes_self xs = is_true (bytes_eq xs xs) ((bytes_eq-Decides xs xs).1 refl) where
  is_true : (b : Bool) → IsTrue b → b ≡ true
  is_true b h = h

and_false : (b : Bool) → (b && false) ≡ false
and_false true = refl
and_false false = refl

and_true : (b : Bool) → (b && true) ≡ b
and_true true = refl
and_true false = refl

-- a mark by its parts
abbrev mark_with : ℕ → ℕ → MarkKind → List ℕ → MetMark
mark_with place text kind name = record { place = place; text = text; kind = kind; name = name }

turned : (a b a' b' k : Bool) → a ≡ a' → b ≡ b' → ((a && b) && k) ≡ ((k && a') && b')
turned true true a' b' true e f = ap₂ (λ x y. x && y) e f
turned true true a' b' false e f = refl
turned true false a' b' true e f = ap₂ (λ x y. x && y) e f
turned true false a' b' false e f = refl
turned false b a' b' true e f = ap (λ x. x && b') e
turned false b a' b' false e f = refl

-- the partners of a start are the ends of its name and text, and those of an end the starts
start_partner : (place text : ℕ) (name : List ℕ) (place' text' : ℕ) (k : MarkKind) (name' : List ℕ)
    → is_partner (mark_with place text Start name) (mark_with place' text' k name') ≡ is_mark_in kind.End name text (mark_with place' text' k name')
start_partner place text name place' text' Whole name' = turned (bytes_eq name name') (text == text') (bytes_eq name' name) (text' == text) false (either_text name name') (either_number text text')
start_partner place text name place' text' Start name' = turned (bytes_eq name name') (text == text') (bytes_eq name' name) (text' == text) false (either_text name name') (either_number text text')
start_partner place text name place' text' End name' = turned (bytes_eq name name') (text == text') (bytes_eq name' name) (text' == text) true (either_text name name') (either_number text text')

end_partner : (place text : ℕ) (name : List ℕ) (place' text' : ℕ) (k : MarkKind) (name' : List ℕ)
    → is_partner (mark_with place text End name) (mark_with place' text' k name') ≡ is_mark_in kind.Start name text (mark_with place' text' k name')
end_partner place text name place' text' Whole name' = turned (bytes_eq name name') (text == text') (bytes_eq name' name) (text' == text) false (either_text name name') (either_number text text')
end_partner place text name place' text' Start name' = turned (bytes_eq name name') (text == text') (bytes_eq name' name) (text' == text) true (either_text name name') (either_number text text')
end_partner place text name place' text' End name' = turned (bytes_eq name name') (text == text') (bytes_eq name' name) (text' == text) false (either_text name name') (either_number text text')

starts_any : (place text : ℕ) (name : List ℕ) (marks : List MetMark) → list_any (is_partner (mark_with place text Start name)) marks ≡ list_any (is_mark_in kind.End name text) marks
starts_any place text name marks = any_same _ _ (λ o. start_partner place text name o.place o.text o.kind o.name) marks

ends_any : (place text : ℕ) (name : List ℕ) (marks : List MetMark) → list_any (is_partner (mark_with place text End name)) marks ≡ list_any (is_mark_in kind.Start name text) marks
ends_any place text name marks = any_same _ _ (λ o. end_partner place text name o.place o.text o.kind o.name) marks

module _ (bookmark : Bookmark) (name : List ℕ) (before marks : List MetMark) (knows : Knows bookmark name before marks) where
  -- a kept mark is whole, or its partner is kept
  pub complete_is : (place text : ℕ) (which : Kind) → completes which text bookmark ≡ is_complete marks (mark_with place text (kind_of which) name)
  complete_is place text kind.Whole = refl
  complete_is place text kind.Start = knows.kept_in kind.End text ∙ sym (starts_any place text name marks)
  complete_is place text kind.End = knows.kept_in kind.Start text ∙ sym (ends_any place text name marks)

  -- a start with its partner
  paired : (place text : ℕ) (k : MarkKind) (other : List ℕ) → (is_mark Start name (mark_with place text k other) && list_any (is_partner (mark_with place text k other)) marks)
      ≡ (is_mark Start name (mark_with place text k other) && is_in text bookmark.end)
  paired place text Whole other = refl
  paired place text End other = refl
  paired place text Start other = by_name (bytes_eq other name) refl where
    by_name : (b : Bool) → bytes_eq other name ≡ b → (bytes_eq other name && list_any (is_partner (mark_with place text Start other)) marks) ≡ (bytes_eq other name && is_in text bookmark.end)
    by_name true e =
        ap (λ b. bytes_eq other name && b) (starts_any place text other marks ∙ ap (λ one. list_any (is_mark_in kind.End one text) marks) (bytes_same other name e) ∙ sym (knows.kept_in kind.End text))
    by_name false e =
        ap (λ b. b && list_any (is_partner (mark_with place text Start other)) marks) e ∙ sym (ap (λ b. b && is_in text bookmark.end) e)

  starts_in : (ended : Came) → list_any (λ (mark : MetMark). is_mark Start name mark && is_in mark.text ended) marks ≡ has_start bookmark.start ended
  starts_in came.Never = any_same _ (λ mark. false) (λ mark. and_false (is_mark Start name mark)) marks ∙ any_never marks
  starts_in came.Dropped = any_same _ (λ mark. false) (λ mark. and_false (is_mark Start name mark)) marks ∙ any_never marks
  starts_in (came.Kept text) = any_same _ (is_mark_in kind.Start name text) (λ mark. ap (λ b. is_mark Start name mark && b) (either_number text mark.text)) marks ∙ sym (knows.kept_in kind.Start text)

  -- whether a whole bookmark is kept
  pub whole_is : is_whole bookmark ≡ has_whole name marks
  whole_is =
      ap₂ (λ a b. a || b) (knows.kept kind.Whole)
      (sym (any_same _ (λ (mark : MetMark). is_mark Start name mark && is_in mark.text bookmark.end) (λ mark. paired mark.place mark.text mark.kind mark.name) marks ∙ starts_in bookmark.end))

-- what came of each kind behind a mark of one kind
of_kind_with : (k which : Kind) (c : Came) (b : Bookmark) → of_kind which (with_kind k c b) ≡ cond (is_same_mark_kind (kind_of k) (kind_of which)) c (of_kind which b)
of_kind_with kind.Whole kind.Whole c b = refl
of_kind_with kind.Whole kind.Start c b = refl
of_kind_with kind.Whole kind.End c b = refl
of_kind_with kind.Start kind.Whole c b = refl
of_kind_with kind.Start kind.Start c b = refl
of_kind_with kind.Start kind.End c b = refl
of_kind_with kind.End kind.Whole c b = refl
of_kind_with kind.End kind.Start c b = refl
of_kind_with kind.End kind.End c b = refl

kind_same : (k which : Kind) (b : Bookmark) → is_same_mark_kind (kind_of k) (kind_of which) ≡ true → of_kind which b ≡ of_kind k b
kind_same kind.Whole kind.Whole b h = refl
kind_same kind.Whole kind.Start b h = absurd (false≢true h)
kind_same kind.Whole kind.End b h = absurd (false≢true h)
kind_same kind.Start kind.Whole b h = absurd (false≢true h)
kind_same kind.Start kind.Start b h = refl
kind_same kind.Start kind.End b h = absurd (false≢true h)
kind_same kind.End kind.Whole b h = absurd (false≢true h)
kind_same kind.End kind.Start b h = absurd (false≢true h)
kind_same kind.End kind.End b h = refl

-- three facts of what came next, by whether it is of the mark's kind
next_met : (same whole : Bool) (text : ℕ) (old other : Came) → (same ≡ true → other ≡ old) → is_met (cond same (next whole text old) other) ≡ (is_met other || (same || false))
next_met false whole text old other e = sym (or_false (is_met other))
next_met true whole text old other e = by_old whole old ∙ sym (ap (λ (one : Came). is_met one || true) (e refl) ∙ or_true (is_met old)) where
  or_true : (b : Bool) → (b || true) ≡ true
  or_true true = refl
  or_true false = refl

  by_old : (whole : Bool) (old : Came) → is_met (next whole text old) ≡ true
  by_old true came.Never = refl
  by_old false came.Never = refl
  by_old whole came.Dropped = refl
  by_old whole (came.Kept place) = refl

unless : (d b : Bool) → b ≡ cond d b (b || false)
unless true b = refl
unless false b = sym (or_false b)

next_kept : (same whole : Bool) (text : ℕ) (old other : Came) → (same ≡ true → other ≡ old)
    → is_kept (cond same (next whole text old) other) ≡ cond (is_met old || whole) (is_kept other) (is_kept other || (same || false))
next_kept false whole text old other e = unless (is_met old || whole) (is_kept other)
next_kept true whole text old other e = by_old whole old ∙ sym (ap (λ (one : Came). cond (is_met old || whole) (is_kept one) (is_kept one || true)) (e refl)) where
  by_old : (whole : Bool) (old : Came) → is_kept (next whole text old) ≡ cond (is_met old || whole) (is_kept old) (is_kept old || true)
  by_old true came.Never = refl
  by_old false came.Never = refl
  by_old whole came.Dropped = refl
  by_old whole (came.Kept place) = refl

next_in : (same whole : Bool) (text asked : ℕ) (old other : Came) → (same ≡ true → other ≡ old)
    → is_in asked (cond same (next whole text old) other) ≡ cond (is_met old || whole) (is_in asked other) (is_in asked other || ((same && (text == asked)) || false))
next_in false whole text asked old other e = unless (is_met old || whole) (is_in asked other)
next_in true whole text asked old other e = by_old whole old ∙ sym (ap (λ (one : Came). cond (is_met old || whole) (is_in asked one) (is_in asked one || ((text == asked) || false))) (e refl)) where
  by_old : (whole : Bool) (old : Came) → is_in asked (next whole text old) ≡ cond (is_met old || whole) (is_in asked old) (is_in asked old || ((text == asked) || false))
  by_old true came.Never = refl
  by_old false came.Never = sym (or_false (text == asked))
  by_old whole came.Dropped = refl
  by_old whole (came.Kept place) = refl

-- what is among marks and perhaps one more
any_behind : (p : MetMark → Bool) (d : Bool) (marks : List MetMark) (mark : MetMark) → list_any p (cond d marks (marks ++ mark ∷ [])) ≡ cond d (list_any p marks) (list_any p marks || (p mark || false))
any_behind p true marks mark = refl
any_behind p false marks mark = list_any-append p marks (mark ∷ [])

-- the marks that are kept behind one more
abbrev pub kept_behind : List MetMark → List MetMark → MetMark → List MetMark
kept_behind before kept mark = cond (list_any (is_mark mark.kind mark.name) before || has_whole mark.name kept) kept (kept ++ mark ∷ [])

module _ (bookmark : Bookmark) (name : List ℕ) (before marks : List MetMark) (knows : Knows bookmark name before marks) (place text : ℕ) (k : Kind) where
  abbrev mark : MetMark
  mark = mark_with place text (kind_of k) name

  abbrev same : Kind → Bool
  same which = is_same_mark_kind (kind_of k) (kind_of which)

  own_mark : (which : Kind) → is_mark (kind_of which) name mark ≡ same which
  own_mark which = ap (λ b. same which && b) (bytes_self name) ∙ and_true (same which)

  dropped_is : (list_any (is_mark (kind_of k) name) before || has_whole name marks) ≡ (is_met (of_kind k bookmark) || is_whole bookmark)
  dropped_is = ap₂ (λ a b. a || b) (sym (knows.met k)) (sym (whole_is bookmark name before marks knows))

  after_is : (which : Kind) → of_kind which (after_mark k text bookmark) ≡ cond (same which) (next (is_whole bookmark) text (of_kind k bookmark)) (of_kind which bookmark)
  after_is which = of_kind_with k which (next (is_whole bookmark) text (of_kind k bookmark)) bookmark

  pub knows_own : Knows (after_mark k text bookmark) name (before ++ mark ∷ []) (kept_behind before marks mark)
  knows_own = record {
    met = λ which.
        ap is_met (after_is which) ∙ next_met (same which) (is_whole bookmark) text (of_kind k bookmark) (of_kind which bookmark) (λ e. kind_same k which bookmark e)
        ∙ ap₂ (λ a b. a || (b || false)) (knows.met which) (sym (own_mark which)) ∙ sym (list_any-append (is_mark (kind_of which) name) before (mark ∷ []));
    kept = λ which.
        ap is_kept (after_is which) ∙ next_kept (same which) (is_whole bookmark) text (of_kind k bookmark) (of_kind which bookmark) (λ e. kind_same k which bookmark e)
        ∙ ap (λ d. cond d (is_kept (of_kind which bookmark)) (is_kept (of_kind which bookmark) || (same which || false))) (sym dropped_is)
        ∙ ap₂ (λ a b. cond (list_any (is_mark (kind_of k) name) before || has_whole name marks) a (a || (b || false))) (knows.kept which) (sym (own_mark which))
        ∙ sym (any_behind (is_mark (kind_of which) name) (list_any (is_mark (kind_of k) name) before || has_whole name marks) marks mark);
    kept_in = λ which asked.
        ap (is_in asked) (after_is which) ∙ next_in (same which) (is_whole bookmark) text asked (of_kind k bookmark) (of_kind which bookmark) (λ e. kind_same k which bookmark e)
        ∙ ap (λ d. cond d (is_in asked (of_kind which bookmark)) (is_in asked (of_kind which bookmark) || ((same which && (text == asked)) || false))) (sym dropped_is)
        ∙ ap₂ (λ a b. cond (list_any (is_mark (kind_of k) name) before || has_whole name marks) a (a || ((b && (text == asked)) || false))) (knows.kept_in which asked) (sym (own_mark which))
        ∙ sym (any_behind (is_mark_in which name asked) (list_any (is_mark (kind_of k) name) before || has_whole name marks) marks mark);
  }

-- a mark of another name changes nothing
module _ (bookmark : Bookmark) (name : List ℕ) (before marks : List MetMark) (knows : Knows bookmark name before marks) (mark : MetMark) (apart : bytes_eq mark.name name ≡ false) where
  other_mark : (which : MarkKind) → is_mark which name mark ≡ false
  other_mark which = ap (λ b. is_same_mark_kind mark.kind which && b) apart ∙ and_false (is_same_mark_kind mark.kind which)

  not_behind : (p : MetMark → Bool) (d : Bool) → p mark ≡ false → list_any p (cond d marks (marks ++ mark ∷ [])) ≡ list_any p marks
  not_behind p d e = any_behind p d marks mark ∙ ap (λ b. cond d (list_any p marks) (list_any p marks || (b || false))) e ∙ sym (unless d (list_any p marks))

  pub knows_other : (d : Bool) → Knows bookmark name (before ++ mark ∷ []) (cond d marks (marks ++ mark ∷ []))
  knows_other d = record {
    met = λ which.
        knows.met which ∙ sym (list_any-append (is_mark (kind_of which) name) before (mark ∷ []) ∙ ap (λ b. list_any (is_mark (kind_of which) name) before || (b || false)) (other_mark (kind_of which))
        ∙ or_false (list_any (is_mark (kind_of which) name) before));
    kept = λ which. knows.kept which ∙ sym (not_behind (is_mark (kind_of which) name) d (other_mark (kind_of which)));
    kept_in = λ which asked. knows.kept_in which asked ∙ sym (not_behind (is_mark_in which name asked) d (ap (λ b. b && (mark.text == asked)) (other_mark (kind_of which))));
  }

-- what is found behind a text that was put
abbrev pub Entry : Type 0
Entry = Bor (List ℕ) × Bookmark

abbrev pub found : List Entry → List ℕ → Option Bookmark
found entries text = lookup (λ (name : Bor (List ℕ)). bytes_eq text name.now) entries

abbrev pub put : List Entry → Bor (List ℕ) → Bookmark → List Entry
put entries key bookmark = insert_entry (λ (one other : Bor (List ℕ)). bytes_eq one.now other.now) entries key bookmark

pub found_put : (entries : List Entry) (key : Bor (List ℕ)) (bookmark : Bookmark) (text : List ℕ) → found (put entries key bookmark) text ≡ cond (bytes_eq text key.now) (Some bookmark) (found entries text)
found_put [] key bookmark text = refl
found_put (e ∷ es) key bookmark text = by_key (bytes_eq key.now e.0.now) refl (found_put es key bookmark text) where
  by_text : (a b : Bool) → bytes_eq text e.0.now ≡ a → bytes_eq text key.now ≡ b → bytes_eq key.now e.0.now ≡ false
      → cond a (Some e.1) (cond b (Some bookmark) (found es text)) ≡ cond b (Some bookmark) (cond a (Some e.1) (found es text))
  by_text true true h k apart = absurd (false≢true (sym apart ∙ ap₂ bytes_eq (sym (bytes_same text key.now k)) (sym (bytes_same text e.0.now h)) ∙ bytes_self text))
  by_text true false h k apart = refl
  by_text false true h k apart = refl
  by_text false false h k apart = refl

  over : (b : Bool) → cond b (Some bookmark) (found es text) ≡ cond b (Some bookmark) (cond b (Some e.1) (found es text))
  over true = refl
  over false = refl

  by_key : (b : Bool) → bytes_eq key.now e.0.now ≡ b → found (put es key bookmark) text ≡ cond (bytes_eq text key.now) (Some bookmark) (found es text)
      → found (cond b ((e.0, bookmark) ∷ es) (e ∷ put es key bookmark)) text ≡ cond (bytes_eq text key.now) (Some bookmark) (cond (bytes_eq text e.0.now) (Some e.1) (found es text))
  by_key true h go =
      over (bytes_eq text e.0.now) ∙ ap (λ one. cond (bytes_eq text one) (Some bookmark) (cond (bytes_eq text e.0.now) (Some e.1) (found es text))) (sym (bytes_same key.now e.0.now h))
  by_key false h go = ap (λ one. cond (bytes_eq text e.0.now) (Some e.1) one) go ∙ by_text (bytes_eq text e.0.now) (bytes_eq text key.now) refl refl h

-- what came of each bookmark behind a mark
pub tells_more : (entries later : List Entry) (key : Bor (List ℕ)) (place text : ℕ) (k : Kind) (before marks : List MetMark) → IsUtf8 key.now → Tells entries before marks
    → later ≡ put entries key (after_mark k text (bookmark_in entries key.now))
    → Tells later (before ++ mark_with place text (kind_of k) (chars key.now) ∷ []) (kept_behind before marks (mark_with place text (kind_of k) (chars key.now)))
tells_more entries later key place text k before marks u tells e = λ asked v. by_text asked v (bytes_eq asked key.now) refl where
  mark : MetMark
  mark = mark_with place text (kind_of k) (chars key.now)

  new : Bookmark
  new = after_mark k text (bookmark_in entries key.now)

  is_found : (asked : List ℕ) → bookmark_in later asked ≡ unwrap_or (cond (bytes_eq asked key.now) (Some new) (found entries asked)) never
  is_found asked = ap (λ all. bookmark_in all asked) e ∙ ap (λ one. unwrap_or one never) (found_put entries key new asked)

  by_text : (asked : List ℕ) → IsUtf8 asked → (b : Bool) → bytes_eq asked key.now ≡ b → Knows (bookmark_in later asked) (chars asked) (before ++ mark ∷ []) (kept_behind before marks mark)
  by_text asked v true h =
      let P : Bookmark → Type 0 = λ one. Knows one (chars asked) (before ++ mark ∷ []) (kept_behind before marks mark) in
      let Q : List ℕ → Type 0 = λ one. Knows new (chars one) (before ++ mark ∷ []) (kept_behind before marks mark) in
      subst P (sym (is_found asked ∙ ap (λ b. unwrap_or (cond b (Some new) (found entries asked)) never) h))
      (subst Q (sym (bytes_same asked key.now h)) (knows_own (bookmark_in entries key.now) (chars key.now) before marks (tells key.now u) place text k))
  by_text asked v false h =
      let P : Bookmark → Type 0 = λ one. Knows one (chars asked) (before ++ mark ∷ []) (kept_behind before marks mark) in
      subst P (sym (is_found asked ∙ ap (λ b. unwrap_or (cond b (Some new) (found entries asked)) never) h))
      (knows_other (bookmark_in entries asked) (chars asked) before marks (tells asked v) mark (sym (same_name key.now asked u v) ∙ h)
      (list_any (is_mark (kind_of k) (chars key.now)) before || has_whole (chars key.now) marks))

-- new marks with one mark more
pub new_behind : (before kept marks : List MetMark) (mark : MetMark) → new_marks before kept (marks ++ mark ∷ []) ≡ kept_behind (before ++ marks) (new_marks before kept marks) mark
new_behind before kept [] mark = ap (λ front. kept_behind front kept mark) (sym (append-nil before))
new_behind before kept (one ∷ marks) mark =
    by_test (list_any (is_mark one.kind one.name) before || has_whole one.name kept) (new_behind (before ++ one ∷ []) kept marks mark) (new_behind (before ++ one ∷ []) (kept ++ one ∷ []) marks mark)
    ∙ ap (λ front. kept_behind front (cond (list_any (is_mark one.kind one.name) before || has_whole one.name kept) (new_marks (before ++ one ∷ []) kept marks) (new_marks (before ++ one ∷ []) (kept ++ one ∷ []) marks)) mark)
    (append_assoc before (one ∷ []) marks) where
      by_test : (b : Bool) → new_marks (before ++ one ∷ []) kept (marks ++ mark ∷ []) ≡ kept_behind ((before ++ one ∷ []) ++ marks) (new_marks (before ++ one ∷ []) kept marks) mark
          → new_marks (before ++ one ∷ []) (kept ++ one ∷ []) (marks ++ mark ∷ []) ≡ kept_behind ((before ++ one ∷ []) ++ marks) (new_marks (before ++ one ∷ []) (kept ++ one ∷ []) marks) mark
          → cond b (new_marks (before ++ one ∷ []) kept (marks ++ mark ∷ [])) (new_marks (before ++ one ∷ []) (kept ++ one ∷ []) (marks ++ mark ∷ []))
          ≡ kept_behind ((before ++ one ∷ []) ++ marks) (cond b (new_marks (before ++ one ∷ []) kept marks) (new_marks (before ++ one ∷ []) (kept ++ one ∷ []) marks)) mark
      by_test true e f = e
      by_test false e f = f

-- a mark that is kept, and one that isn't
module _ (entries later : List Entry) (key : Bor (List ℕ)) (place text : ℕ) (k : Kind) (name : List ℕ) (before kept : List MetMark) (u : IsUtf8 key.now) (is : key.now ≡ name)
    (follows : Follows entries kept before) (e : later ≡ put entries key (after_mark k text (bookmark_in entries key.now))) where
  abbrev one : MetMark
  one = mark_with place text (kind_of k) (chars key.now)

  dropped : Bool
  dropped = list_any (is_mark (kind_of k) (chars key.now)) before || has_whole (chars key.now) kept

  takes_is : (is_met (of_kind k (bookmark_in entries key.now)) || is_whole (bookmark_in entries key.now)) ≡ (list_any (is_mark (kind_of k) (chars key.now)) before || has_whole (chars key.now) kept)
  takes_is = let knows = follows.tells key.now u in ap₂ (λ a b. a || b) (knows.met k) (whole_is (bookmark_in entries key.now) (chars key.now) before kept knows)

  follows_one : Follows later (kept_behind before kept one) (before ++ one ∷ [])
  follows_one = record {
    kept_are = ap (λ all. kept_behind before all one) follows.kept_are ∙ sym (new_behind [] [] before one);
    tells = tells_more entries later key place text k before kept u follows.tells e;
  }

  both_not : (a b : Bool) → (not a && not b) ≡ true → (a || b) ≡ false
  both_not true b h = absurd (false≢true h)
  both_not false true h = absurd (false≢true h)
  both_not false false h = refl

  one_not : (a b : Bool) → (not a && not b) ≡ false → (a || b) ≡ true
  one_not true b h = refl
  one_not false true h = refl
  one_not false false h = absurd (true≢false h)

  pub follows_kept : (not (is_met (of_kind k (bookmark_in entries key.now))) && not (is_whole (bookmark_in entries key.now))) ≡ true
      → Follows later (kept ++ mark_with place text (kind_of k) (chars name) ∷ []) (before ++ mark_with place text (kind_of k) (chars name) ∷ [])
  follows_kept h =
      let P : List ℕ → Type 0 = λ named. Follows later (kept ++ mark_with place text (kind_of k) (chars named) ∷ []) (before ++ mark_with place text (kind_of k) (chars named) ∷ []) in
      let Q : List MetMark → Type 0 = λ all. Follows later all (before ++ one ∷ []) in
      subst P is (subst Q (ap (λ b. cond b kept (kept ++ one ∷ [])) (sym takes_is ∙ both_not (is_met (of_kind k (bookmark_in entries key.now))) (is_whole (bookmark_in entries key.now)) h)) follows_one)

  pub follows_dropped : (not (is_met (of_kind k (bookmark_in entries key.now))) && not (is_whole (bookmark_in entries key.now))) ≡ false
      → Follows later kept (before ++ mark_with place text (kind_of k) (chars name) ∷ [])
  follows_dropped h =
      let P : List ℕ → Type 0 = λ named. Follows later kept (before ++ mark_with place text (kind_of k) (chars named) ∷ []) in
      let Q : List MetMark → Type 0 = λ all. Follows later all (before ++ one ∷ []) in
      subst P is (subst Q (ap (λ b. cond b kept (kept ++ one ∷ [])) (sym takes_is ∙ one_not (is_met (of_kind k (bookmark_in entries key.now))) (is_whole (bookmark_in entries key.now)) h)) follows_one)

-- the marks among what is met
pub marks_in : (met : List Met) → marks_met met ≡ filter_map mark_in met
marks_in [] = refl
marks_in (Mark mark ∷ met) = ap (λ (more : List MetMark). mark ∷ more) (marks_in met)
marks_in (Section one ∷ met) = marks_in met
marks_in (Note one ∷ met) = marks_in met
marks_in (Reference one ∷ met) = marks_in met
marks_in (Sequence one ∷ met) = marks_in met
marks_in (Variable one ∷ met) = marks_in met
marks_in (Table one ∷ met) = marks_in met

mark_alike : (one : Met) → mark_in (outlined one) ≡ mark_in one
mark_alike (Mark mark) = refl
mark_alike (Section one) = refl
mark_alike (Note one) = refl
mark_alike (Reference one) = refl
mark_alike (Sequence one) = refl
mark_alike (Variable one) = refl
mark_alike (Table one) = refl

pub marks_alike : (met : List Met) → filter_map mark_in (map outlined met) ≡ filter_map mark_in met
marks_alike [] = refl
marks_alike (one ∷ met) = ap₂ (λ (o : Option MetMark) (more : List MetMark). cons_option o more) (mark_alike one) (marks_alike met)

abbrev pub marks_to : List Read → ℕ → List MetMark
marks_to met i = filter_map mark_in (map met_of (take i met))

marks_more : (met : List Read) (i : ℕ) (d : Read) → i < length met → marks_to met (i + 1) ≡ marks_to met i ++ cons_option (mark_in (met_of (get_or met i d))) []
marks_more met i d h =
    ap (λ (some : List Read). filter_map mark_in (map met_of some)) (take_more met i d h) ∙ ap (filter_map mark_in) (map-append met_of (take i met) (get_or met i d ∷ []))
    ∙ filter_map-append mark_in (map met_of (take i met)) (met_of (get_or met i d) ∷ [])

pub follows_mark : (met : List Read) (i : ℕ) (d : Read) (entries : List Entry) (kept : List MetMark) (mark : MetMark) → i < length met → Some mark ≡ mark_in (met_of (get_or met i d))
    → Follows entries kept (marks_to met i ++ mark ∷ []) → Follows entries kept (marks_to met (i + 1))
follows_mark met i d entries kept mark h is follows =
    let P : List MetMark → Type 0 = λ before. Follows entries kept before in
    subst P (sym (marks_more met i d h ∙ ap (λ o. marks_to met i ++ cons_option o []) (sym is))) follows

pub follows_other : (met : List Read) (i : ℕ) (d : Read) (entries : List Entry) (kept : List MetMark) → i < length met → None ≡ mark_in (met_of (get_or met i d))
    → Follows entries kept (marks_to met i) → Follows entries kept (marks_to met (i + 1))
follows_other met i d entries kept h is follows =
    let P : List MetMark → Type 0 = λ before. Follows entries kept before in
    subst P (sym (marks_more met i d h ∙ ap (λ o. marks_to met i ++ cons_option o []) (sym is) ∙ append-nil (marks_to met i))) follows

-- the places of those of some marks that are complete among others
abbrev pub complete_in : List MetMark → List MetMark → List ℕ
complete_in marks some = map (λ (mark : MetMark). mark.place) (filter (is_complete marks) some)

-- one mark more
pub complete_more : (marks : List MetMark) (kept : List ReadMark) (i : ℕ) (d : ReadMark) → i < length kept → (b : Bool) → is_complete marks (mark_of (get_or kept i d)) ≡ b
    → complete_in marks (map mark_of (take (i + 1) kept)) ≡ complete_in marks (map mark_of (take i kept)) ++ cond b ((get_or kept i d).place ∷ []) []
complete_more marks kept i d h b e =
    ap (λ (some : List ReadMark). complete_in marks (map mark_of some)) (take_more kept i d h)
    ∙ ap (complete_in marks) (map-append mark_of (take i kept) (get_or kept i d ∷ []))
    ∙ ap (map (λ (mark : MetMark). mark.place)) (filter-append (is_complete marks) (map mark_of (take i kept)) (mark_of (get_or kept i d) ∷ []))
    ∙ map-append (λ (mark : MetMark). mark.place) (filter (is_complete marks) (map mark_of (take i kept))) (filter (is_complete marks) (mark_of (get_or kept i d) ∷ []))
    ∙ ap (λ (more : List ℕ). complete_in marks (map mark_of (take i kept)) ++ more) (by_test b e) where
      by_test : (b : Bool) → is_complete marks (mark_of (get_or kept i d)) ≡ b → map (λ (mark : MetMark). mark.place) (cond (is_complete marks (mark_of (get_or kept i d))) (mark_of (get_or kept i d) ∷ []) []) ≡ cond b ((get_or kept i d).place ∷ []) []
      by_test true e = ap (λ b. map (λ (mark : MetMark). mark.place) (cond b (mark_of (get_or kept i d) ∷ []) [])) e
      by_test false e = ap (λ b. map (λ (mark : MetMark). mark.place) (cond b (mark_of (get_or kept i d) ∷ []) [])) e

-- whether a kept mark is complete, by what came of its bookmark
pub is_complete_by : (entries : List Entry) (kept marks : List MetMark) (key name : List ℕ) (place text : ℕ) (k : Kind) → IsUtf8 key → key ≡ name → Follows entries kept marks
    → completes k text (bookmark_in entries key) ≡ is_complete kept (mark_with place text (kind_of k) (chars name))
is_complete_by entries kept marks key name place text k u is follows =
    complete_is (bookmark_in entries key) (chars key) marks kept (follows.tells key u) place text k ∙ ap (λ one. is_complete kept (mark_with place text (kind_of k) (chars one))) is

pub complete_all : (entries : List Entry) (kept marks : List MetMark) → Follows entries kept marks → complete_in kept kept ≡ complete_places marks
complete_all entries kept marks follows = ap (λ all. complete_in all all) follows.kept_are

pub complete_kept : (marks : List MetMark) (kept : List ReadMark) (i : ℕ) (d : ReadMark) (old new : List ℕ) → i < length kept → is_complete marks (mark_of (get_or kept i d)) ≡ true
    → AreSame old (complete_in marks (map mark_of (take i kept))) → AreSame new (old ++ (get_or kept i d).place ∷ []) → AreSame new (complete_in marks (map mark_of (take (i + 1) kept)))
complete_kept marks kept i d old new h e same put = λ place.
    put place ∙ places_behind old (complete_in marks (map mark_of (take i kept))) (get_or kept i d).place same place ∙ sym (ap (λ places. is_at places place) (complete_more marks kept i d h true e))

pub complete_left : (marks : List MetMark) (kept : List ReadMark) (i : ℕ) (d : ReadMark) (old : List ℕ) → i < length kept → is_complete marks (mark_of (get_or kept i d)) ≡ false
    → AreSame old (complete_in marks (map mark_of (take i kept))) → AreSame old (complete_in marks (map mark_of (take (i + 1) kept)))
complete_left marks kept i d old h e same = λ place.
    same place ∙ sym (ap (λ places. is_at places place) (complete_more marks kept i d h false e ∙ append-nil (complete_in marks (map mark_of (take i kept)))))
