-- Serving the input, a piece at a time.
use Rattle.std.proofs.Common.{◌≡◌, ℕ, ◌+◌, ◌<◌, ◌≤◌, false, Option, Some, None, List, [], ◌++◌, length, take, drop, refl, sym, ◌∙◌, ap, subst, arith, length-append, inl, inr}
use Rattle.std.proofs.lemmas.List.{append-nil, length-take-le, drop_all}
use Rattle.std.proofs.lemmas.List.Elements.{All-nil}
use Rattle.sb_disk.specs.Streams.{Taken, Took}
use Rattle.sb_disk.proofs.CauseLemmas.{Rose-before}
use Rattle.sb_disk.proofs.StreamLemmas.{Given-none, Taken-none, Taken-more, Taken-took}
use Rattle.sb_plain.specs.declared.reply.Reply.{Reply}
use Rattle.sb_lines.specs.Lines.{whole_lines, lines_of}
use Rattle.sb_lines.proofs.InputLemmas.{AreFirstItems-whole}
use Rattle.sb_registry.specs.Boxes.{Meanings}
use Rattle.sb_opening.specs.Session.{Session}
use Rattle.sb_opening.specs.Ends.{ends_with}
use Rattle.sb_kernel.specs.declared.ending.Stop.{Stop}
use Rattle.sb_kernel.specs.declared.ending.Stop.TheVariants.{SinkFailed, NoMemory, DiskFailed, Damaged}
use Rattle.sb_kernel.specs.declared.ending.Ending.{Ending}
use Rattle.sb_kernel.specs.declared.ending.Ending.TheVariants.{InputEnded, SourceFailed, MostTaken, Stopped}
use Rattle.sb_kernel.specs.World.{World, At, at}
use Rattle.sb_kernel.specs.Answering.{Closes}
use Rattle.sb_kernel.specs.Runs.{PlaysOut, HasAnswered, HasStopped, Stands}
use Rattle.sb_kernel.specs.Serving.{Counts, counted, NeverFall, HasEndingCause, HasNoneLeft, Serves, ServesMore, HasEnded, HasServed}
use Rattle.sb_kernel.proofs.KeepingLemmas.{Keeps-none, KeepsOut-closed}
use Rattle.sb_kernel.proofs.PlayedLemmas.{HasPlayed-none, PlaysOut-closed}

more_room : (n room : ℕ) → n ≤ n + room
more_room n room = omega arith

below_room : (n room : ℕ) → 0 < room → n < n + room
below_room n room some = omega arith

-- ---- before the first piece
stands_first : {B D : Type 0} (w : World B D) (m : Meanings) (line : List ℕ) (disk : D) (x : Session B) (held : Option (List ℕ)) → line ≡ [] → Stands w m [] line (at disk x held []) (at disk x held [])
stands_first w m line disk x held empty = record {
  answered = record {
    items = [];
    replies = [];
    written = [];
    is_written = Given-none held;
    begun = refl;
    each = refl;
    are_items = tt;
    are_answered = tt;
    on = All-nil (λ (reply : Reply). ends_with reply ≡ false);
    writes = refl;
    later = omega arith;
    plays = λ s now single. HasPlayed-none w m disk x s held now;
    keeps = Keeps-none w disk x;
  };
  line = empty;
}

pub serves_first : {B D : Type 0} (w : World B D) (m : Meanings) (left : Option (List ℕ)) (line : List ℕ) (disk : D) (x y : Session B) (held : Option (List ℕ)) (starts : List ℕ) → y ≡ x → line ≡ [] → starts ≡ [] →
    Serves w m [] left left line (at disk x held []) (at disk y held starts)
serves_first {B} w m left line disk x y held starts same empty none = record {
  taken = Taken-none left;
  stands = subst (λ (z : Session B). Stands w m [] line (at disk x held []) (at disk z held starts)) (sym same)
      (subst (λ (l : List ℕ). Stands w m [] line (at disk x held []) (at disk x held l)) (sym none) (stands_first w m line disk x held empty));
}

-- ---- the end of the source
at_end : (left new : Option (List ℕ)) (count : ℕ) (buffer : List ℕ) → Took left new count buffer → count ≡ 0 → 0 < length buffer → HasNoneLeft new
at_end None new count buffer took none room rest is = absurd (let e = took in cc)
at_end (Some left) new count buffer took none room rest is =
    let empty : left ≡ [] = (took.at_end room).0 none in
    let e : Some (drop count left) ≡ Some rest = sym took.rest ∙ is in
    let f : drop count left ≡ rest = cc in
    sym f ∙ ap (λ (l : List ℕ). drop count l) empty ∙ drop_all {X = ℕ} count [] (omega arith)

none_more : (first left new : Option (List ℕ)) (bytes buffer : List ℕ) (count : ℕ) → Taken first left bytes → Took left new count buffer → count ≡ 0 → Taken first new bytes
none_more first left new bytes buffer count taken took none =
    subst (λ (l : List ℕ). Taken first new l) (ap (λ (n : ℕ). bytes ++ take n buffer) none ∙ append-nil bytes) (Taken-more first left new bytes (take count buffer) taken (Taken-took left new count buffer took))

pub ends_with_input : {B D : Type 0} (w : World B D) (m : Meanings) (bytes : List ℕ) (left old new : Option (List ℕ)) (line : List ℕ) (first now last : At B D) (room count : ℕ) (buffer : List ℕ) → 0 < room →
    Serves w m bytes left old line first now → Took old new count buffer → count ≡ 0 → 0 < length buffer → HasAnswered w m (lines_of bytes) first last → HasEnded w m (length bytes + room) left new InputEnded first last
ends_with_input w m bytes left old new line first now last room count buffer asked serves took none some a = record {
  taken = bytes;
  written = a.written;
  items = a.items;
  replies = a.replies;
  is_taken = none_more left old new bytes buffer count serves.taken took none;
  is_written = a.is_written;
  begun = a.begun;
  answers = a.are_items;
  whole = tt;
  are_answered = a.are_answered;
  once = a.on;
  leaves = at_end old new count buffer took none some;
  within = below_room (length bytes) room asked;
  writes = a.writes;
  in_time = tt;
  known = (a.plays, a.keeps);
}

pub stops_at_last_line : {B D : Type 0} (w : World B D) (m : Meanings) (stop : Stop) (bytes : List ℕ) (left old new : Option (List ℕ)) (line : List ℕ) (first now last : At B D) (room count : ℕ) (buffer : List ℕ) →
    Serves w m bytes left old line first now → Took old new count buffer → count ≡ 0 → 0 < length buffer → HasStopped w m stop (whole_lines bytes) (lines_of bytes) first last → HasEnded w m (length bytes + room) left new (Stopped stop) first last
stops_at_last_line w m stop bytes left old new line first now last room count buffer serves took none some h = record {
  taken = bytes;
  written = h.written;
  items = h.items;
  replies = h.replies;
  is_taken = none_more left old new bytes buffer count serves.taken took none;
  is_written = h.is_written;
  begun = h.begun;
  answers = h.are_items;
  whole = inr (at_end old new count buffer took none some);
  are_answered = h.are_answered;
  once = h.on;
  leaves = tt;
  within = more_room (length bytes) room;
  writes = h.writes;
  in_time = record { before = bytes; piece = []; is = sym (append-nil bytes); short = omega arith; replied = h.replied };
  known = (h.plays, h.keeps);
}

-- ---- a source that fails
pub ends_with_fault : {B D : Type 0} (w : World B D) (m : Meanings) (bytes : List ℕ) (left old new : Option (List ℕ)) (line : List ℕ) (first now : At B D) (room : ℕ) → 0 < room → new ≡ old →
    Serves w m bytes left old line first now → HasEnded w m (length bytes + room) left new SourceFailed first now
ends_with_fault w m bytes left old new line first now room asked same serves =
    let a = serves.stands.answered in
    record {
      taken = bytes;
      written = a.written;
      items = a.items;
      replies = a.replies;
      is_taken = subst (λ (l : Option (List ℕ)). Taken left l bytes) (sym same) serves.taken;
      is_written = a.is_written;
      begun = a.begun;
      answers = a.are_items;
      whole = tt;
      are_answered = a.are_answered;
      once = a.on;
      leaves = tt;
      within = below_room (length bytes) room asked;
      writes = a.writes;
      in_time = tt;
      known = (a.plays, a.keeps);
    }

-- ---- a piece
pub serves_more : {B D : Type 0} (w : World B D) (m : Meanings) (bytes : List ℕ) (left old new : Option (List ℕ)) (line line' : List ℕ) (first now last : At B D) (room count : ℕ) (buffer : List ℕ) →
    Serves w m bytes left old line first now → Took old new count buffer → 0 < count → count ≤ length buffer → length buffer ≤ room → Stands w m (bytes ++ take count buffer) line' first last →
    ServesMore w m count room bytes left new line' first last
serves_more w m bytes left old new line line' first now last room count buffer serves took some few fits stands = record {
  more = take count buffer;
  count_is = length-take-le count buffer few;
  some = some;
  few = omega (arith, few, fits);
  serves = record { taken = Taken-more left old new bytes (take count buffer) serves.taken (Taken-took old new count buffer took); stands = stands };
}

piece_fits : (bytes buffer : List ℕ) (count room : ℕ) → count ≤ length buffer → length buffer ≤ room → length (bytes ++ take count buffer) ≤ length bytes + room
piece_fits bytes buffer count room few fits = omega (arith, length-append bytes (take count buffer), length-take-le count buffer few)

piece_short : (buffer : List ℕ) (count : ℕ) → count ≤ length buffer → length buffer ≤ 4096 → length (take count buffer) ≤ 4096
piece_short buffer count few short = omega (arith, length-take-le count buffer few)

pub stops_in_piece : {B D : Type 0} (w : World B D) (m : Meanings) (stop : Stop) (bytes : List ℕ) (left old new : Option (List ℕ)) (line : List ℕ) (first now last : At B D) (room count : ℕ) (buffer : List ℕ) →
    Serves w m bytes left old line first now → Took old new count buffer → count ≤ length buffer → length buffer ≤ room → length buffer ≤ 4096 →
    HasStopped w m stop (whole_lines bytes) (whole_lines (bytes ++ take count buffer)) first last → HasEnded w m (length bytes + room) left new (Stopped stop) first last
stops_in_piece w m stop bytes left old new line first now last room count buffer serves took few fits short h = record {
  taken = bytes ++ take count buffer;
  written = h.written;
  items = h.items;
  replies = h.replies;
  is_taken = Taken-more left old new bytes (take count buffer) serves.taken (Taken-took old new count buffer took);
  is_written = h.is_written;
  begun = h.begun;
  answers = AreFirstItems-whole (bytes ++ take count buffer) h.items h.are_items;
  whole = inl h.are_items;
  are_answered = h.are_answered;
  once = h.on;
  leaves = tt;
  within = piece_fits bytes buffer count room few fits;
  writes = h.writes;
  in_time = record { before = bytes; piece = take count buffer; is = refl; short = piece_short buffer count few short; replied = h.replied };
  known = (h.plays, h.keeps);
}

-- ---- all pieces
-- so many bytes were taken, and all of their whole lines were answered
pub record ServesSome {B D : Type 0} (w : World B D) (m : Meanings) (taken : ℕ) (left left_now : Option (List ℕ)) (line : List ℕ) (first now : At B D) : Type 0 where
  pub bytes : List ℕ
  pub count_is : length bytes ≡ taken
  pub serves : Serves w m bytes left left_now line first now

pub ServesSome-none : {B D : Type 0} (w : World B D) (m : Meanings) (left left_now : Option (List ℕ)) (line : List ℕ) (first now : At B D) → Serves w m [] left left_now line first now → ServesSome w m 0 left left_now line first now
ServesSome-none w m left left_now line first now serves = record { bytes = []; count_is = refl; serves = serves }

pub ServesSome-more : {B D : Type 0} (w : World B D) (m : Meanings) (taken count room : ℕ) (bytes : List ℕ) (left left_now : Option (List ℕ)) (line : List ℕ) (first now : At B D) →
    length bytes ≡ taken → ServesMore w m count room bytes left left_now line first now → ServesSome w m (taken + count) left left_now line first now
ServesSome-more w m taken count room bytes left left_now line first now is more = record {
  bytes = bytes ++ more.more;
  count_is = length-append bytes more.more ∙ (λ i. is i + more.count_is i);
  serves = more.serves;
}

pub ends_with_most : {B D : Type 0} (w : World B D) (m : Meanings) (taken most : ℕ) (left left_now : Option (List ℕ)) (line : List ℕ) (first now : At B D) → taken ≡ most → ServesSome w m taken left left_now line first now →
    HasEnded w m most left left_now MostTaken first now
ends_with_most w m taken most left left_now line first now is some =
    let a = some.serves.stands.answered in
    record {
      taken = some.bytes;
      written = a.written;
      items = a.items;
      replies = a.replies;
      is_taken = some.serves.taken;
      is_written = a.is_written;
      begun = a.begun;
      answers = a.are_items;
      whole = tt;
      are_answered = a.are_answered;
      once = a.on;
      leaves = tt;
      within = some.count_is ∙ is;
      writes = a.writes;
      in_time = tt;
      known = (a.plays, a.keeps);
    }

-- ---- the end
-- the session is closed then
pub HasServed-closed : {B D : Type 0} (w : World B D) (m : Meanings) (most : ℕ) (left left_now : Option (List ℕ)) (ending : Ending) (first : At B D) (disk new : D) (x y : Session B) (held : Option (List ℕ)) (starts now : List ℕ) →
    (x.down ≡ false → x.space.store.book.down ≡ false) → Closes w disk new x → now ≡ starts → HasEnded w m most left left_now ending first (at disk x held starts) → HasServed w m most left left_now ending first (at new y held now)
HasServed-closed w m most left left_now ending first disk new x y held starts now ready closed same ended = record {
  taken = ended.taken;
  written = ended.written;
  items = ended.items;
  replies = ended.replies;
  is_taken = ended.is_taken;
  is_written = ended.is_written;
  begun = ended.begun ∙ ap length (sym same);
  answers = ended.answers;
  whole = ended.whole;
  are_answered = ended.are_answered;
  once = ended.once;
  leaves = ended.leaves;
  within = ended.within;
  writes = ended.writes;
  in_time = ended.in_time;
  known = (
    subst (λ (l : List ℕ). PlaysOut w m ended.items ended.replies first (at new y held l)) (sym same)
        (PlaysOut-closed w m ended.items ended.replies first disk new x y held held starts ended.known.0 closed),
    KeepsOut-closed w ended.items ended.replies first (at disk x held starts) new ready ended.known.1 closed,
  );
}

pub NeverFall-then : (a b c : Counts) → NeverFall a b → NeverFall b c → NeverFall a c
NeverFall-then a b c before later = record {
  source = omega (arith, before.source, later.source);
  sink = omega (arith, before.sink, later.sink);
  disk = omega (arith, before.disk, later.disk);
}

-- ---- causes, once the session is closed
pub NeverFall-closed : (a b : Counts) (disk : ℕ) → b.disk ≤ disk → NeverFall a b → NeverFall a (counted b.source b.sink disk)
NeverFall-closed a b disk more before = record { source = before.source; sink = before.sink; disk = omega (arith, before.disk, more) }

pub HasCause-closed : (ending : Ending) (a b : Counts) (disk : ℕ) → b.disk ≤ disk → HasEndingCause ending a b → HasEndingCause ending a (counted b.source b.sink disk)
HasCause-closed InputEnded a b disk more cause = tt
HasCause-closed SourceFailed a b disk more cause = cause
HasCause-closed MostTaken a b disk more cause = tt
HasCause-closed (Stopped SinkFailed) a b disk more cause = cause
HasCause-closed (Stopped NoMemory) a b disk more cause = tt
HasCause-closed (Stopped DiskFailed) a b disk more cause = Rose-before a.disk b.disk disk cause more
HasCause-closed (Stopped Damaged) a b disk more cause = tt
