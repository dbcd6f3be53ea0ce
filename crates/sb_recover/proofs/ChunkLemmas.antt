-- The records of a chunk are taken one by one.
use Rattle.std.proofs.Common.{◌≡◌, ℕ, ◌+◌, ◌<◌, List, [], ◌∷◌, ◌++◌, length, length-append, take, drop, get_or, refl, sym, ◌∙◌, ap, subst, arith, append_assoc, Vec, Global}
use Rattle.std.proofs.lemmas.List.{append-nil, take_more}
use Rattle.std.specs.BTreeMap.{BTreeMap}
use Rattle.sb_log.specs.Records.{Record, AreRecords, Begins, NoneBegins, Spells, spelling, spelled}
use Rattle.sb_log.proofs.RecordLemmas.{spelling-front, some_spelling, Begins-spelling}
use Rattle.sb_log.proofs.RowLemmas.{spelled-append, AreRecords-append, AreRecords-parts}
use Rattle.sb_recover.specs.declared.change.Change.{Change as Lent}
use Rattle.sb_recover.specs.declared.found.Found.{Found}
use Rattle.sb_recover.specs.Changes.{changes_of, newest_first, limits_of, taken, AreNumbered, AllFit}
use Rattle.sb_recover.specs.Frames.{texts, or_else, is_some, NoneHeld}
use Rattle.sb_recover.specs.Found.{IsFound, Takes, TakesFront, TakesChunk, FoundIn}
use Rattle.sb_recover.proofs.FrameLemmas.{texts-append}

-- a record that begins there is some bytes of them
pub Begins-within : (bytes : List ℕ) (r : Record) (n : ℕ) → Begins bytes r n → (0 < n) × (n + length (drop n bytes) ≡ length bytes)
Begins-within bytes r n begins =
    let some = some_spelling r in let len = begins.len in
    let whole = ap (λ (l : List ℕ). length l) begins.front in let parts = length-append (spelling r) (drop n bytes) in
    (omega (arith, some, len), omega (arith, whole, parts, len))

Takes-none : (f : Found) → Takes f f []
Takes-none f = record {
  found = λ before h. subst (λ (l : List Record). IsFound f l) (sym (append-nil before)) h;
  sound = λ pages sound. sound;
}

Takes-both : (f g h : Found) (a b : List Record) → Takes f g a → Takes g h b → Takes f h (a ++ b)
Takes-both f g h a b first next = record {
  found = λ before is. subst (λ (l : List Record). IsFound h l) (append_assoc before a b) (next.found (before ++ a) (first.found before is));
  sound = λ pages sound. next.sound pages (first.sound pages sound);
}

pub TakesFront-none : (f : Found) (chunk : List ℕ) → TakesFront f f chunk chunk
TakesFront-none f chunk = record { recs = []; are = tt; front = refl; takes = Takes-none f }

pub TakesFront-more : (f g h : Found) (chunk rest : List ℕ) (r : Record) (n : ℕ) → TakesFront f g chunk rest → Begins rest r n → Takes g h (r ∷ []) → TakesFront f h chunk (drop n rest)
TakesFront-more f g h chunk rest r n so_far begins takes = record {
  recs = so_far.recs ++ r ∷ [];
  are = AreRecords-append so_far.recs (r ∷ []) so_far.are (begins.sound, tt);
  front =
      so_far.front ∙ ap (λ (l : List ℕ). spelled so_far.recs ++ l) begins.front
      ∙ sym (append_assoc (spelled so_far.recs) (spelling r) (drop n rest))
      ∙ ap (λ (l : List ℕ). (spelled so_far.recs ++ l) ++ drop n rest) (sym (append-nil (spelling r)))
      ∙ ap (λ (l : List ℕ). l ++ drop n rest) (sym (spelled-append so_far.recs (r ∷ [])));
  takes = Takes-both f g h so_far.recs (r ∷ []) so_far.takes takes;
}

-- records at the front of a row of records are its first ones
record Splits (all recs : List Record) (rest : List ℕ) : Type 0 where
  more : List Record
  is : all ≡ recs ++ more
  rest_is : rest ≡ spelled more

no_spelling : (r : Record) (behind : List ℕ) → spelling r ++ behind ≡ [] → ⊥
no_spelling r behind e =
    let some = some_spelling r in let len = ap (λ (l : List ℕ). length l) e in let parts = length-append (spelling r) behind in
    absurd (omega (arith, some, len, parts))

splits : (all recs : List Record) (rest : List ℕ) → AreRecords all → AreRecords recs → spelled all ≡ spelled recs ++ rest → Splits all recs rest
splits all [] rest sound are e = record { more = all; is = refl; rest_is = sym e }
splits [] (r ∷ recs) rest sound are e = absurd (no_spelling r (spelled recs ++ rest) (sym (append_assoc (spelling r) (spelled recs) rest) ∙ sym e))
splits (q ∷ all) (r ∷ recs) rest sound are e =
    let same = spelling-front q r (spelled all) (spelled recs ++ rest) sound.0 are.0 (e ∙ append_assoc (spelling r) (spelled recs) rest) in
    let tail = splits all recs rest sound.1 are.1 same.1 in
    record { more = tail.more; is = ap (λ (x : Record). x ∷ all) same.0 ∙ ap (λ (l : List Record). r ∷ l) tail.is; rest_is = tail.rest_is }

none_more : (more : List Record) (rest : List ℕ) → AreRecords more → rest ≡ spelled more → NoneBegins rest → more ≡ []
none_more [] rest sound is none = refl
none_more (r ∷ more) rest sound is none = absurd (none r (length (spelling r)) (subst (λ (l : List ℕ). Begins l r (length (spelling r))) (sym is) (Begins-spelling r (spelled more) sound.0)))

-- where no record begins the rest, the front is all of them
pub TakesChunk-front : (f g : Found) (chunk rest : List ℕ) → TakesFront f g chunk rest → NoneBegins rest → TakesChunk f g chunk
TakesChunk-front f g chunk rest front none = record {
  found = λ recs before sound is h.
      let s = splits recs front.recs rest sound front.are (sym is ∙ front.front) in
      let parts = AreRecords-parts front.recs s.more (subst AreRecords s.is sound) in
      let empty = none_more s.more rest parts.1 s.rest_is none in
      subst (λ (l : List Record). IsFound g (before ++ l)) (sym (s.is ∙ ap (λ (l : List Record). front.recs ++ l) empty ∙ append-nil front.recs)) (front.takes.found before h);
  sound = front.takes.sound;
}

-- ---- chunk by chunk
limits_none : (counts : BTreeMap ℕ ℕ) → counts.entries ≡ [] → (tx : ℕ) → limits_of counts tx ≡ 0
limits_none counts empty tx = rw empty refl

pub FoundIn-none : (pages : ℕ) (f : Found) → f.changes.items ≡ [] → f.counts.entries ≡ [] → f.committed.keys ≡ [] → NoneHeld pages (texts f.frames.items) → FoundIn pages [] f
FoundIn-none pages f changes counts committed frames = record {
  found = λ recs sound is. subst (λ (l : List Record). IsFound f l) (sym is) (record {
    stand = ap (λ (l : List Lent). taken (limits_of f.counts) (newest_first l)) changes;
    numbered = subst (λ (l : List Lent). AreNumbered (limits_of f.counts) (newest_first l)) (sym changes) (limits_none f.counts counts);
    done = λ tx. rw committed refl;
    bases = λ p disk lt. ap (λ (l : List ℕ). or_else l disk) (frames.none p);
    logged = λ p lt. ap is_some (frames.none p);
  });
  sound = record {
    fit = subst (λ (l : List Lent). AllFit (changes_of l)) (sym changes) tt;
    frames = record { count_is = frames.count_is; whole = frames.whole };
  };
}

record LastOf (chunks : List (List ℕ)) (chunk : List ℕ) (recs : List Record) : Type 0 where
  first : List Record
  last : List Record
  is : recs ≡ first ++ last
  front : Spells chunks first
  chunk_is : chunk ≡ spelled last

last_of : (chunks : List (List ℕ)) (chunk : List ℕ) (recs : List Record) → Spells (chunks ++ chunk ∷ []) recs → LastOf chunks chunk recs
last_of [] chunk recs spells = record { first = []; last = spells.0; is = spells.2 ∙ ap (λ (l : List Record). spells.0 ++ l) spells.4 ∙ append-nil spells.0; front = refl; chunk_is = spells.3 }
last_of (c ∷ chunks) chunk recs spells =
    let tail = last_of chunks chunk spells.1 spells.4 in
    record {
      first = spells.0 ++ tail.first;
      last = tail.last;
      is = spells.2 ∙ ap (λ (l : List Record). spells.0 ++ l) tail.is ∙ sym (append_assoc spells.0 tail.first tail.last);
      front = (spells.0, tail.first, refl, spells.3, tail.front);
      chunk_is = tail.chunk_is;
    }

pub FoundIn-more : (pages : ℕ) (chunks : List (List ℕ)) (chunk : List ℕ) (f g : Found) → FoundIn pages chunks f → TakesChunk f g chunk → FoundIn pages (chunks ++ chunk ∷ []) g
FoundIn-more pages chunks chunk f g so_far one = record {
  found = λ recs sound spells.
      let l = last_of chunks chunk recs spells in
      let parts = AreRecords-parts l.first l.last (subst AreRecords l.is sound) in
      subst (λ (x : List Record). IsFound g x) (sym l.is) (one.found l.last l.first parts.1 l.chunk_is (so_far.found l.first parts.0 l.front));
  sound = one.sound pages so_far.sound;
}

-- the texts of one more
pub texts-next : (vs : List (Vec ℕ Global)) (i : ℕ) (v : Vec ℕ Global) (bytes : List ℕ) → i < length vs → v ≡ get_or vs i v → bytes ≡ v.items → texts (take (i + 1) vs) ≡ texts (take i vs) ++ bytes ∷ []
texts-next vs i v bytes lt is are =
    ap texts (take_more vs i v lt) ∙ texts-append (take i vs) (get_or vs i v ∷ [])
    ∙ ap (λ (w : Vec ℕ Global). texts (take i vs) ++ w.items ∷ []) (sym is) ∙ ap (λ (l : List ℕ). texts (take i vs) ++ l ∷ []) (sym are)
