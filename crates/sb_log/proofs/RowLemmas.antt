-- Rows of whole records.
use Rattle.std.proofs.Common.{◌≡◌, ℕ, ◌+◌, ◌≤◌, List, [], ◌∷◌, ◌++◌, length, drop, refl, sym, ap, subst, ◌∙◌, append_assoc, arith}
use Rattle.std.proofs.lemmas.List.{length-append, length-drop, append-nil, drop-drop}
use Rattle.sb_log.specs.Records.{Record, spelling, spelled, Spells, AreRecords, Begins, NoneBegins, IsRow, HasRecords, IsBadAt}
use Rattle.sb_log.proofs.RecordLemmas.{spelling-front, some_spelling, Begins-spelling}

pub spelled-append : (a b : List Record) → spelled (a ++ b) ≡ spelled a ++ spelled b
spelled-append [] b = refl
spelled-append (r ∷ a) b = ap (λ (l : List ℕ). spelling r ++ l) (spelled-append a b) ∙ sym (append_assoc (spelling r) (spelled a) (spelled b))

pub AreRecords-append : (a b : List Record) → AreRecords a → AreRecords b → AreRecords (a ++ b)
AreRecords-append [] b first second = second
AreRecords-append (r ∷ a) b first second = (first.0, AreRecords-append a b first.1 second)

pub AreRecords-parts : (a b : List Record) → AreRecords (a ++ b) → AreRecords a × AreRecords b
AreRecords-parts [] b all = (tt, all)
AreRecords-parts (r ∷ a) b all = let parts = AreRecords-parts a b all.1 in ((all.0, parts.0), parts.1)

pub spelled_none : (recs : List Record) → spelled recs ≡ [] → recs ≡ []
spelled_none [] is = refl
spelled_none (r ∷ recs) is =
    let none : length (spelling r ++ spelled recs) ≡ 0 = ap (λ (l : List ℕ). length l) is in
    absurd (omega (arith, none, length-append (spelling r) (spelled recs), some_spelling r))

pub spelled_count : (recs : List Record) → length recs ≤ length (spelled recs)
spelled_count [] = omega arith
spelled_count (r ∷ recs) = omega (arith, length-append (spelling r) (spelled recs), some_spelling r, spelled_count recs)

-- bytes are one row of records
pub one_row : (recs more : List Record) → AreRecords recs → AreRecords more → spelled recs ≡ spelled more → recs ≡ more
one_row [] more first second is = sym (spelled_none more (sym is))
one_row (r ∷ recs) [] first second is = spelled_none (r ∷ recs) is
one_row (r ∷ recs) (q ∷ more) first second is =
    let same = spelling-front r q (spelled recs) (spelled more) first.0 second.0 is in
    let rest = one_row recs more first.1 second.1 same.1 in
    λ i. same.0 i ∷ rest i

-- chunks spell one row of records
pub Spells-one : (chunks : List (List ℕ)) (recs more : List Record) → AreRecords recs → AreRecords more → Spells chunks recs → Spells chunks more → recs ≡ more
Spells-one [] recs more first second here there = here ∙ sym there
Spells-one (chunk ∷ chunks) recs more first second here there =
    let parts = AreRecords-parts here.0 here.1 (subst (λ (l : List Record). AreRecords l) here.2 first) in
    let others = AreRecords-parts there.0 there.1 (subst (λ (l : List Record). AreRecords l) there.2 second) in
    let front = one_row here.0 there.0 parts.0 others.0 (sym here.3 ∙ there.3) in
    let behind = Spells-one chunks here.1 there.1 parts.1 others.1 here.4 there.4 in
    here.2 ∙ (λ i. front i ++ behind i) ∙ sym there.2

-- a chunk more
pub Spells-more : (chunks : List (List ℕ)) (recs more : List Record) → Spells chunks recs → Spells (chunks ++ spelled more ∷ []) (recs ++ more)
Spells-more [] recs more spells = (more, [], rw spells (sym (append-nil more)), refl, refl)
Spells-more (chunk ∷ chunks) recs more spells =
    (spells.0, spells.1 ++ more, rw spells.2 (append_assoc spells.0 spells.1 more), spells.3, Spells-more chunks spells.1 more spells.4)

-- ---- a chunk that is counted
-- so many records stand up to the place
pub record IsCounted (chunk : List ℕ) (at n : ℕ) : Type 0 where
  pub recs : List Record
  pub row : IsRow chunk at recs
  pub count : n ≡ length recs
  pub within : at ≤ length chunk

pub IsCounted-more : (chunk : List ℕ) (at n : ℕ) (r : Record) (len : ℕ) → IsCounted chunk at n → Begins (drop at chunk) r len → IsCounted chunk (at + len) (n + 1)
IsCounted-more chunk at n r len counted begins = record {
  recs = counted.recs ++ r ∷ [];
  row = record {
    sound = AreRecords-append counted.recs (r ∷ []) counted.row.sound (begins.sound, tt);
    front = counted.row.front ∙ ap (λ (l : List ℕ). spelled counted.recs ++ l) (begins.front ∙ ap (λ (l : List ℕ). spelling r ++ l) (drop-drop len at chunk))
        ∙ sym (append_assoc (spelled counted.recs) (spelling r) (drop (at + len) chunk))
        ∙ ap (λ (l : List ℕ). l ++ drop (at + len) chunk) (sym spelled_more);
    len = omega (arith, counted.row.len, begins.len, length-append (spelled counted.recs) (spelling r), ap (λ (l : List ℕ). length l) spelled_more);
  };
  count = omega (arith, counted.count, length-append counted.recs (r ∷ []));
  within =
      let all : length (drop at chunk) ≡ length (spelling r) + length (drop len (drop at chunk)) = ap (λ (l : List ℕ). length l) begins.front ∙ length-append (spelling r) (drop len (drop at chunk)) in
      omega (arith, all, begins.len, length-drop at chunk, counted.within);
}
  where
    spelled_more : spelled (counted.recs ++ r ∷ []) ≡ spelled counted.recs ++ spelling r
    spelled_more = spelled-append counted.recs (r ∷ []) ∙ ap (λ (l : List ℕ). spelled counted.recs ++ l) (append-nil (spelling r))

-- there are no more records than bytes
pub IsCounted-few : (chunk : List ℕ) (at n : ℕ) → IsCounted chunk at n → n ≤ at
IsCounted-few chunk at n counted = omega (arith, counted.count, counted.row.len, spelled_count counted.recs)

-- ---- bad in one place
-- behind these records nothing is spelled, so the other row is no longer
no_longer : (recs more : List Record) (bad rest : List ℕ) → AreRecords recs → AreRecords more → NoneBegins bad → spelled recs ++ bad ≡ spelled more ++ rest → length (spelled more) ≤ length (spelled recs)
no_longer recs [] bad rest first second none is = omega arith
no_longer [] (q ∷ more) bad rest first second none is =
    absurd (none q (length (spelling q)) (subst (λ (l : List ℕ). Begins l q (length (spelling q))) (sym (is ∙ append_assoc (spelling q) (spelled more) rest)) (Begins-spelling q (spelled more ++ rest) second.0)))
no_longer (r ∷ recs) (q ∷ more) bad rest first second none is =
    let same = spelling-front r q (spelled recs ++ bad) (spelled more ++ rest) first.0 second.0
    (sym (append_assoc (spelling r) (spelled recs) bad) ∙ is ∙ append_assoc (spelling q) (spelled more) rest) in
    let spellings : length (spelling r) ≡ length (spelling q) = ap (λ (x : Record). length (spelling x)) same.0 in
    let rest_fits = no_longer recs more bad rest first.1 second.1 none same.1 in
    omega (arith, spellings, rest_fits, length-append (spelling r) (spelled recs), length-append (spelling q) (spelled more))

pub IsBadAt-one : (chunk : List ℕ) (m n : ℕ) → IsBadAt chunk m → IsBadAt chunk n → m ≡ n
IsBadAt-one chunk m n first second =
    let here = no_longer first.recs second.recs (drop m chunk) (drop n chunk) first.row.sound second.row.sound first.none (sym first.row.front ∙ second.row.front) in
    let there = no_longer second.recs first.recs (drop n chunk) (drop m chunk) second.row.sound first.row.sound second.none (sym second.row.front ∙ first.row.front) in
    omega (arith, here, there, first.row.len, second.row.len)

pub IsBadAt-no_row : (chunk : List ℕ) (at n : ℕ) → IsBadAt chunk at → HasRecords chunk n → ⊥
IsBadAt-no_row chunk at n bad has =
    let all = no_longer bad.recs has.recs (drop at chunk) [] bad.row.sound has.sound bad.none (sym bad.row.front ∙ has.whole ∙ sym (append-nil (spelled has.recs))) in
    omega (arith, all, bad.row.len, bad.some, ap (λ (l : List ℕ). length l) has.whole)
