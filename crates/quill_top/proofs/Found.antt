-- What each step finds is the one thing to be found.
use Rattle.std.proofs.Common.{◌≡◌, ℕ, List, Option, Some, None, Result, Ok, Err, refl, sym, ap, ◌∙◌, subst, inl, inr}
use Rattle.doc_model.specs.declared.document.Document.{Document}
use Rattle.desk_model.specs.declared.script.Numbered.{Numbered}
use Rattle.doc_model.specs.Plain.{IsPlain}
use Rattle.spelling_model.specs.Spelling.{canonical}
use Rattle.desk_model.specs.Script.{IsScript, IsFirstBadLine}
use Rattle.desk_model.specs.Runs.{script_text}
use Rattle.quill_io.specs.Shelf.{Files}
use Rattle.quill_top.specs.Words.{Names, Task, accepted}
use Rattle.quill_top.specs.Stop.{Stop, not_plain, usage, bad_line}
use Rattle.quill_top.specs.Outcome.{Outcome, IsFetched, IsLoaded, IsRead, IsRun, IsSave, IsSaved, IsOutcome, IsOutcomeOf}
use Rattle.quill_top.specs.Answer.{Only}
use Rattle.quill_top.proofs.Lines.{no_first_bad_line, one_first_bad_line}

-- the bytes of a plain document, of which there is one, are loaded
pub loaded : (at : Files) (name bytes : List ℕ) (doc : Document) → Only (IsFetched at name) (Ok bytes) → IsPlain doc → canonical doc ≡ bytes
    → ((other : Document) → IsPlain other → canonical other ≡ bytes → other ≡ doc) → Only (IsLoaded at name) (Ok doc)
loaded at name bytes doc fetched plain spelled one = ((plain, subst (λ (b : List ℕ). IsFetched at name (Ok b)) (sym spelled) fetched.0), only) where
  only : (other : Result Document Stop) → IsLoaded at name other → other ≡ Ok doc
  only (Ok other) found = ap Ok (one other found.0 (let e = fetched.1 (Ok (canonical other)) found.1 in cc))
  only (Err stop) (inl unread) = let e = fetched.1 (Err stop) unread in cc
  only (Err stop) (inr refused) = absurd (refused.2 doc plain (spelled ∙ (let e = fetched.1 (Ok refused.0) refused.1 in cc)))

-- a file that isn't fetched isn't loaded
pub unloaded : (at : Files) (name : List ℕ) (stop : Stop) → Only (IsFetched at name) (Err stop) → Only (IsLoaded at name) (Err stop)
unloaded at name stop fetched = (inl fetched.0, only) where
  only : (other : Result Document Stop) → IsLoaded at name other → other ≡ Err stop
  only (Ok doc) found = let e = fetched.1 (Ok (canonical doc)) found.1 in cc
  only (Err other) (inl unread) = let e = fetched.1 (Err other) unread in cc
  only (Err other) (inr refused) = let e = fetched.1 (Ok refused.0) refused.1 in cc

-- bytes that no plain document has are refused
pub refused : (at : Files) (name bytes : List ℕ) → Only (IsFetched at name) (Ok bytes)
    → ((doc : Document) → IsPlain doc → canonical doc ≡ bytes → ⊥) → Only (IsLoaded at name) (Err not_plain)
refused at name bytes fetched unspelled = (inr (bytes, fetched.0, unspelled, refl), only) where
  only : (other : Result Document Stop) → IsLoaded at name other → other ≡ Err not_plain
  only (Ok doc) found = absurd (unspelled doc found.0 (let e = fetched.1 (Ok (canonical doc)) found.1 in cc))
  only (Err other) (inl unread) = let e = fetched.1 (Err other) unread in cc
  only (Err other) (inr found) = ap Err found.3

-- the bytes of a script, which is one list of commands, are read
pub read : (at : Files) (name bytes : List ℕ) (commands : List Numbered) → Only (IsFetched at name) (Ok bytes) → IsScript bytes commands
    → ((other : List Numbered) → IsScript bytes other → other ≡ commands) → Only (IsRead at name) (Ok commands)
read at name bytes commands fetched script one = ((bytes, fetched.0, script), only) where
  only : (other : Result (List Numbered) Stop) → IsRead at name other → other ≡ Ok commands
  only (Ok other) found =
      let e : found.0 ≡ bytes = (let same = fetched.1 (Ok found.0) found.1 in cc) in
      ap Ok (one other (subst (λ (b : List ℕ). IsScript b other) e found.2))
  only (Err stop) (inl unread) = let e = fetched.1 (Err stop) unread in cc
  only (Err stop) (inr bad) =
      let e : bad.0 ≡ bytes = (let same = fetched.1 (Ok bad.0) bad.2 in cc) in
      absurd (no_first_bad_line bytes commands bad.1 script (subst (λ (b : List ℕ). IsFirstBadLine b bad.1) e bad.3))

-- a file that isn't fetched isn't read
pub unread : (at : Files) (name : List ℕ) (stop : Stop) → Only (IsFetched at name) (Err stop) → Only (IsRead at name) (Err stop)
unread at name stop fetched = (inl fetched.0, only) where
  only : (other : Result (List Numbered) Stop) → IsRead at name other → other ≡ Err stop
  only (Ok commands) found = let e = fetched.1 (Ok found.0) found.1 in cc
  only (Err other) (inl unread) = let e = fetched.1 (Err other) unread in cc
  only (Err other) (inr bad) = let e = fetched.1 (Ok bad.0) bad.2 in cc

-- the first bad line is told
pub bad : (at : Files) (name bytes : List ℕ) (number : ℕ) → Only (IsFetched at name) (Ok bytes) → IsFirstBadLine bytes number → Only (IsRead at name) (Err (bad_line number))
bad at name bytes number fetched first = (inr (bytes, number, fetched.0, first, refl), only) where
  only : (other : Result (List Numbered) Stop) → IsRead at name other → other ≡ Err (bad_line number)
  only (Ok commands) found =
      let e : found.0 ≡ bytes = (let same = fetched.1 (Ok found.0) found.1 in cc) in
      absurd (no_first_bad_line bytes commands number (subst (λ (b : List ℕ). IsScript b commands) e found.2) first)
  only (Err other) (inl unread) = let e = fetched.1 (Err other) unread in cc
  only (Err other) (inr found) =
      let e : found.0 ≡ bytes = (let same = fetched.1 (Ok found.0) found.2 in cc) in
      let one = one_first_bad_line bytes number found.1 first (subst (λ (b : List ℕ). IsFirstBadLine b found.1) e found.3) in
      ap Err (found.4 ∙ ap bad_line one)

-- a document that is loaded and a script that is read make the text
pub run : (at : Files) (names : Names) (doc : Document) (commands : List Numbered) → Only (IsLoaded at names.file) (Ok doc) → Only (IsRead at names.script) (Ok commands)
    → Only (IsRun at names) (Ok (record { text = script_text doc commands; report = None }))
run at names doc commands loaded read = ((doc, commands, loaded.0, read.0, refl), only) where
  only : (other : Outcome) → IsRun at names other → other ≡ Ok (record { text = script_text doc commands; report = None })
  only (Ok done) found =
      let d = loaded.1 (Ok found.0) found.2 in
      let c = read.1 (Ok found.1) found.3 in
      let e : script_text found.0 found.1 ≡ script_text doc commands = cc in
      ap Ok (found.4 ∙ ap (λ (text : List ℕ). record { text = text; report = None }) e)
  only (Err stop) (inl unloaded) = let e = loaded.1 (Err stop) unloaded in cc
  only (Err stop) (inr unread) = let e = read.1 (Err stop) unread.2 in cc

-- where FILE isn't loaded, that is the outcome
pub run_unloaded : (at : Files) (names : Names) (stop : Stop) → Only (IsLoaded at names.file) (Err stop) → Only (IsRun at names) (Err stop)
run_unloaded at names stop loaded = (inl loaded.0, only) where
  only : (other : Outcome) → IsRun at names other → other ≡ Err stop
  only (Ok text) found = let e = loaded.1 (Ok found.0) found.2 in cc
  only (Err other) (inl unloaded) = let e = loaded.1 (Err other) unloaded in cc
  only (Err other) (inr unread) = let e = loaded.1 (Ok unread.0) unread.1 in cc

-- where FILE is loaded and SCRIPT isn't read, that is the outcome
pub run_unread : (at : Files) (names : Names) (doc : Document) (stop : Stop) → Only (IsLoaded at names.file) (Ok doc) → Only (IsRead at names.script) (Err stop)
    → Only (IsRun at names) (Err stop)
run_unread at names doc stop loaded read = (inr (doc, loaded.0, read.0), only) where
  only : (other : Outcome) → IsRun at names other → other ≡ Err stop
  only (Ok text) found = let e = read.1 (Ok found.1) found.3 in cc
  only (Err other) (inl unloaded) = let e = loaded.1 (Err other) unloaded in cc
  only (Err other) (inr unread) = let e = read.1 (Err other) unread.2 in cc

-- what bytes are saved as, where they are those of FILE
pub save : (at : Files) (file bytes : List ℕ) (result : Outcome) → Only (IsFetched at file) (Ok bytes) → Only (IsSaved bytes) result → Only (IsSave at file) result
save at file bytes result fetched saved = (is result saved.0, only) where
  is : (result : Outcome) → IsSaved bytes result → IsSave at file result
  is (Ok done) found = (bytes, fetched.0, found)
  is (Err stop) found = inr (bytes, fetched.0, found)

  same : (other : List ℕ) → IsFetched at file (Ok other) → other ≡ bytes
  same other found = let e = fetched.1 (Ok other) found in cc

  only : (other : Outcome) → IsSave at file other → other ≡ result
  only (Ok done) found = saved.1 (Ok done) (subst (λ (b : List ℕ). IsSaved b (Ok done)) (same found.0 found.1) found.2)
  only (Err stop) (inl unread) = let e = fetched.1 (Err stop) unread in cc
  only (Err stop) (inr found) = saved.1 (Err stop) (subst (λ (b : List ℕ). IsSaved b (Err stop)) (same found.0 found.1) found.2)

-- a file that isn't fetched isn't saved
pub unsaved : (at : Files) (file : List ℕ) (stop : Stop) → Only (IsFetched at file) (Err stop) → Only (IsSave at file) (Err stop)
unsaved at file stop fetched = (inl fetched.0, only) where
  only : (other : Outcome) → IsSave at file other → other ≡ Err stop
  only (Ok done) found = let e = fetched.1 (Ok found.0) found.1 in cc
  only (Err other) (inl unread) = let e = fetched.1 (Err other) unread in cc
  only (Err other) (inr found) = let e = fetched.1 (Ok found.0) found.1 in cc

-- the outcome of accepted words is that of what they ask for
pub outcome : (at : Files) (words : List (List ℕ)) (task : Task) (result : Outcome) → accepted words ≡ Some task → Only (IsOutcomeOf at (Some task)) result → Only (IsOutcome at words) result
outcome at words task result e found = subst (λ (asked : Option Task). Only (IsOutcomeOf at asked) result) (sym e) found

-- words that aren't accepted come to the usage
pub outcome_usage : (at : Files) (words : List (List ℕ)) → accepted words ≡ None → Only (IsOutcome at words) (Err usage)
outcome_usage at words e = subst (λ (asked : Option Task). Only (IsOutcomeOf at asked) (Err usage)) (sym e) (refl, λ other is. is)
