-- What a run has done, after one line more.
use Rattle.std.proofs.Common.{◌≡◌, ℕ, ◌+◌, ◌≤◌, Bool, true, false, Option, Result, Ok, Err, List, [], ◌∷◌, ◌++◌, length, refl, sym, ◌∙◌, ap, subst, inl, inr, arith, length-append}
use Rattle.std.proofs.lemmas.List.{append-nil}
use Rattle.std.proofs.lemmas.List.Elements.{All-push}
use Rattle.sb_disk.specs.Disk.{Fits}
use Rattle.sb_disk.specs.Streams.{Given}
use Rattle.sb_disk.proofs.StreamLemmas.{Given-more}
use Rattle.sb_plain.specs.declared.reply.Reply.{Reply}
use Rattle.sb_plain.specs.Text.{reply_text, text_of}
use Rattle.sb_grammar.specs.Columns.{Item}
use Rattle.sb_lines.specs.Lines.{asking, asks, without_return, AreItems, AreFirstItems}
use Rattle.sb_lines.proofs.ItemsLemmas.{AreItems-passed, AreItems-said, AreFirstItems-all, AreFirstItems-asking}
use Rattle.sb_registry.specs.Boxes.{Meanings}
use Rattle.sb_opening.specs.Session.{Session}
use Rattle.sb_kernel.specs.declared.ending.Stop.{Stop}
use Rattle.sb_kernel.specs.declared.ending.Stop.TheVariants.{SinkFailed, NoMemory, DiskFailed, Damaged}
use Rattle.sb_kernel.specs.World.{World, At, at}
use Rattle.sb_kernel.specs.Ending.{AnswersBad, AreAnswered, GoOn, GoOnButLast, SaysWhy, EndsOrNot, WritesAtStop}
use Rattle.sb_opening.specs.Ends.{ends_with}
use Rattle.sb_kernel.specs.Writing.{GivenFront}
use Rattle.sb_kernel.specs.Answering.{HasReplied}
use Rattle.sb_kernel.specs.Runs.{PlaysOn, HasAnswered, HasStopped, LinesLead}
use Rattle.sb_kernel.specs.Keeping.{Keeps}
use Rattle.sb_kernel.proofs.KeepingLemmas.{Keeps-then}
use Rattle.sb_kernel.proofs.PlayedLemmas.{PlaysOn-more}
use Rattle.sb_kernel.proofs.Replied.{text_of-push, all_replied, more_replies, more_written}

-- a blank line or a comment changes nothing
pub passes_over : {B D : Type 0} (w : World B D) (m : Meanings) (lines : List (List ℕ)) (line : List ℕ) (first now : At B D) →
    asks (without_return line) ≡ false → HasAnswered w m lines first now → HasAnswered w m (lines ++ line ∷ []) first now
passes_over w m lines line first now passed answered = record {
  items = answered.items;
  replies = answered.replies;
  written = answered.written;
  is_written = answered.is_written;
  begun = answered.begun;
  each = answered.each;
  are_items = AreItems-passed lines answered.items line answered.are_items passed;
  are_answered = answered.are_answered;
  on = answered.on;
  writes = answered.writes;
  later = answered.later;
  plays = answered.plays;
  keeps = answered.keeps;
}

-- the line asks for a reply and was given this one, between these two moments
pub record IsAnswered {B D : Type 0} (w : World B D) (line : List ℕ) (reply : Reply) (old now : At B D) : Type 0 where
  pub said : asks (without_return line) ≡ true
  pub up : old.session.down ≡ false
  pub book : old.session.space.store.book.down ≡ false
  pub starts : now.starts ≡ old.starts ++ w.clock old.disk ∷ []
  pub later : w.faults old.disk ≤ w.faults now.disk
  pub replied : HasReplied w (without_return line) old.disk now.disk old.session now.session reply

pub is_answered : {B D : Type 0} (w : World B D) (line bytes content : List ℕ) (said : Bool) (reply : Reply) (old now : At B D) → bytes ≡ line → content ≡ without_return bytes → said ≡ asks content → said ≡ true →
    old.session.down ≡ false → old.session.space.store.book.down ≡ false → now.starts ≡ old.starts ++ w.clock old.disk ∷ [] → w.faults old.disk ≤ w.faults now.disk → HasReplied w content old.disk now.disk old.session now.session reply → IsAnswered w line reply old now
is_answered w line bytes content said reply old now same is asked so up book starts later replied =
    let content_is : content ≡ without_return line = is ∙ ap without_return same in
    record {
      said = ap asks (sym content_is) ∙ sym asked ∙ so;
      up = up;
      book = book;
      starts = starts;
      later = later;
      replied = subst (λ (l : List ℕ). HasReplied w l old.disk now.disk old.session now.session reply) content_is replied;
    }

-- the text stands alone in room that was cleared for it
alone : (bytes out cleared text : List ℕ) → bytes ≡ out → out ≡ cleared ++ text → cleared ≡ [] → bytes ≡ text
alone bytes out cleared text same printed empty = same ∙ printed ∙ ap (λ (l : List ℕ). l ++ text) empty

pub Given-alone : (old new : Option (List ℕ)) (bytes out cleared text : List ℕ) → bytes ≡ out → out ≡ cleared ++ text → cleared ≡ [] → Given old new bytes → Given old new text
Given-alone old new bytes out cleared text same printed empty given = subst (λ (l : List ℕ). Given old new l) (alone bytes out cleared text same printed empty) given

pub GivenFront-alone : (old new : Option (List ℕ)) (bytes out cleared text : List ℕ) → bytes ≡ out → out ≡ cleared ++ text → cleared ≡ [] → GivenFront old new bytes → GivenFront old new text
GivenFront-alone old new bytes out cleared text same printed empty given = subst (λ (l : List ℕ). GivenFront old new l) (alone bytes out cleared text same printed empty) given

-- ---- replies, one more
AreAnswered-push : (items : List Item) (replies : List Reply) (item : Item) (reply : Reply) → AreAnswered items replies → AnswersBad item reply → AreAnswered (items ++ item ∷ []) (replies ++ reply ∷ [])
AreAnswered-push [] [] item reply are bad = (bad, tt)
AreAnswered-push [] (r ∷ replies) item reply are bad = absurd are
AreAnswered-push (i ∷ items) [] item reply are bad = absurd are
AreAnswered-push (i ∷ items) (r ∷ replies) item reply are bad = (are.0, AreAnswered-push items replies item reply are.1 bad)

abbrev GoesOn : Reply → Type 0
GoesOn reply = ends_with reply ≡ false

GoOn-push : (replies : List Reply) (reply : Reply) → GoOn replies → ends_with reply ≡ false → GoOn (replies ++ reply ∷ [])
GoOn-push replies reply on last = All-push GoesOn replies reply on last

but_last : (replies : List Reply) (reply : Reply) → GoOn replies → GoOnButLast (replies ++ reply ∷ [])
but_last replies reply on = record { first = replies; others = reply ∷ []; are = refl; few = omega arith; on = on }

-- the run's part that has no regard to what was written
record HasBegun {B D : Type 0} (w : World B D) (m : Meanings) (lines : List (List ℕ)) (replies : List Reply) (first now : At B D) : Type 0 where
  items : List Item
  begun : length items ≡ length now.starts
  each : length replies ≡ length items
  are_items : AreItems (asking lines) items
  are_answered : AreAnswered items replies
  later : w.faults first.disk ≤ w.faults now.disk
  plays : PlaysOn w m items replies first now
  keeps : Keeps w items replies first.disk now.disk first.session now.session

still_later : (a b c : ℕ) → a ≤ b → b ≤ c → a ≤ c
still_later a b c before later = omega (arith, before, later)

length-begun : (items : List Item) (item : Item) (starts now : List ℕ) (start : ℕ) → length items ≡ length starts → now ≡ starts ++ start ∷ [] → length (items ++ item ∷ []) ≡ length now
length-begun items item starts now start same pushed = length-append items (item ∷ []) ∙ ap (λ n. n + 1) same ∙ sym (ap length pushed ∙ length-append starts (start ∷ []))

length-replied : (replies : List Reply) (reply : Reply) (items : List Item) (item : Item) → length replies ≡ length items → length (replies ++ reply ∷ []) ≡ length (items ++ item ∷ [])
length-replied replies reply items item same = length-append replies (reply ∷ []) ∙ ap (λ n. n + 1) same ∙ sym (length-append items (item ∷ []))

begins : {B D : Type 0} (w : World B D) (fits : (d : D) → Fits (w.len d) (w.clock d) (w.told d)) (m : Meanings) (lines : List (List ℕ)) (line : List ℕ) (reply : Reply) (first old now : At B D) →
    IsAnswered w line reply old now → (answered : HasAnswered w m lines first old) → HasBegun w m (lines ++ line ∷ []) (answered.replies ++ reply ∷ []) first now
begins w fits m lines line reply first old now one answered = record {
  items = answered.items ++ one.replied.item ∷ [];
  begun = length-begun answered.items one.replied.item old.starts now.starts (w.clock old.disk) answered.begun one.starts;
  each = length-replied answered.replies reply answered.items one.replied.item answered.each;
  are_items = AreItems-said lines answered.items line one.replied.item answered.are_items one.said one.replied.is_item;
  are_answered = AreAnswered-push answered.items answered.replies one.replied.item reply answered.are_answered one.replied.bad;
  later = still_later (w.faults first.disk) (w.faults old.disk) (w.faults now.disk) answered.later one.later;
  plays = subst (λ (starts : List ℕ). PlaysOn w m (answered.items ++ one.replied.item ∷ []) (answered.replies ++ reply ∷ []) first (at now.disk now.session now.held starts)) (sym one.starts)
      (PlaysOn-more w fits m answered.items answered.replies first old.disk now.disk old.session now.session old.held now.held old.starts (without_return line) reply answered.later one.later answered.plays one.replied);
  keeps = Keeps-then w answered.items (one.replied.item ∷ []) answered.replies (reply ∷ []) first.disk old.disk now.disk first.session old.session now.session
      answered.each one.up one.book answered.keeps one.replied.keeps;
}

-- a line that was answered
pub answers : {B D : Type 0} (w : World B D) (fits : (d : D) → Fits (w.len d) (w.clock d) (w.told d)) (m : Meanings) (lines : List (List ℕ)) (line : List ℕ) (reply : Reply) (first old now : At B D) →
    ends_with reply ≡ false → IsAnswered w line reply old now → Given old.held now.held (reply_text reply) → HasAnswered w m lines first old → HasAnswered w m (lines ++ line ∷ []) first now
answers w fits m lines line reply first old now on one given answered =
    let h = begins w fits m lines line reply first old now one answered in
    record {
      items = h.items;
      replies = answered.replies ++ reply ∷ [];
      written = answered.written ++ reply_text reply;
      is_written = Given-more first.held old.held now.held answered.written (reply_text reply) answered.is_written given;
      begun = h.begun;
      each = h.each;
      are_items = h.are_items;
      are_answered = h.are_answered;
      on = GoOn-push answered.replies reply answered.on on;
      writes = ap (λ (text : List ℕ). text ++ reply_text reply) answered.writes ∙ sym (text_of-push answered.replies reply);
      later = h.later;
      plays = h.plays;
      keeps = h.keeps;
    }

-- a line whose reply the sink didn't take
pub stops_at_sink : {B D : Type 0} (w : World B D) (fits : (d : D) → Fits (w.len d) (w.clock d) (w.told d)) (m : Meanings) (lines : List (List ℕ)) (line : List ℕ) (reply : Reply) (first old now : At B D) →
    IsAnswered w line reply old now → GivenFront old.held now.held (reply_text reply) → HasAnswered w m lines first old → HasStopped w m SinkFailed lines (lines ++ line ∷ []) first now
stops_at_sink w fits m lines line reply first old now one given answered =
    let h = begins w fits m lines line reply first old now one answered in
    record {
      items = h.items;
      replies = answered.replies ++ reply ∷ [];
      written = answered.written ++ given.written;
      is_written = Given-more first.held old.held now.held answered.written given.written answered.is_written given.is_written;
      begun = h.begun;
      each = h.each;
      are_items = AreFirstItems-all (asking (lines ++ line ∷ [])) h.items h.are_items;
      are_answered = h.are_answered;
      on = but_last answered.replies reply answered.on;
      replied = more_written lines (answered.replies ++ reply ∷ []) answered.written given.written (more_replies lines answered.replies (reply ∷ []) answered.written (all_replied w m lines first old answered));
      writes = record { written = answered.replies; last = reply; part = given.written; are = refl; breaks_off = given.front; is_text = ap (λ (text : List ℕ). text ++ given.written) answered.writes };
      later = h.later;
      plays = h.plays;
      keeps = h.keeps;
    }

-- a line whose reply couldn't be printed
pub stops_unprinted : {B D : Type 0} (w : World B D) (fits : (d : D) → Fits (w.len d) (w.clock d) (w.told d)) (m : Meanings) (lines : List (List ℕ)) (line : List ℕ) (reply : Reply) (first old now : At B D) →
    IsAnswered w line reply old now → now.held ≡ old.held → HasAnswered w m lines first old → HasStopped w m NoMemory lines (lines ++ line ∷ []) first now
stops_unprinted w fits m lines line reply first old now one same answered =
    let h = begins w fits m lines line reply first old now one answered in
    record {
      items = h.items;
      replies = answered.replies ++ reply ∷ [];
      written = answered.written;
      is_written = subst (λ (held : Option (List ℕ)). Given first.held held answered.written) (sym same) answered.is_written;
      begun = h.begun;
      each = h.each;
      are_items = AreFirstItems-all (asking (lines ++ line ∷ [])) h.items h.are_items;
      are_answered = h.are_answered;
      on = but_last answered.replies reply answered.on;
      replied = more_replies lines answered.replies (reply ∷ []) answered.written (all_replied w m lines first old answered);
      writes = inr (record { written = answered.replies; last = reply; are = refl; is_text = answered.writes });
      later = h.later;
      plays = h.plays;
      keeps = h.keeps;
    }

-- a line whose reply, which was written in full, says why the run stops
says_last : (stop : Stop) (before : List Reply) (last : Reply) (bytes : List ℕ) → SaysWhy stop last → bytes ≡ text_of (before ++ last ∷ []) → WritesAtStop stop (before ++ last ∷ []) bytes
says_last SinkFailed before last bytes why is = absurd why
says_last NoMemory before last bytes why is = absurd why
says_last DiskFailed before last bytes why is = record { before = before; last = last; are = refl; why = why; is_text = is }
says_last Damaged before last bytes why is = record { before = before; last = last; are = refl; why = why; is_text = is }

stops_behind : {B D : Type 0} (w : World B D) (fits : (d : D) → Fits (w.len d) (w.clock d) (w.told d)) (m : Meanings) (lines : List (List ℕ)) (line : List ℕ) (reply : Reply) (stop : Stop) (first old now : At B D) →
    SaysWhy stop reply → IsAnswered w line reply old now → Given old.held now.held (reply_text reply) → HasAnswered w m lines first old → HasStopped w m stop lines (lines ++ line ∷ []) first now
stops_behind w fits m lines line reply stop first old now why one given answered =
    let h = begins w fits m lines line reply first old now one answered in
    let all = ap (λ (text : List ℕ). text ++ reply_text reply) answered.writes ∙ sym (text_of-push answered.replies reply) in
    record {
      items = h.items;
      replies = answered.replies ++ reply ∷ [];
      written = answered.written ++ reply_text reply;
      is_written = Given-more first.held old.held now.held answered.written (reply_text reply) answered.is_written given;
      begun = h.begun;
      each = h.each;
      are_items = AreFirstItems-all (asking (lines ++ line ∷ [])) h.items h.are_items;
      are_answered = h.are_answered;
      on = but_last answered.replies reply answered.on;
      replied = more_written lines (answered.replies ++ reply ∷ []) answered.written (reply_text reply) (more_replies lines answered.replies (reply ∷ []) answered.written (all_replied w m lines first old answered));
      writes = says_last stop answered.replies reply (answered.written ++ reply_text reply) why all;
      later = h.later;
      plays = h.plays;
      keeps = h.keeps;
    }

-- a line whose reply was written in full
pub leads_on : {B D : Type 0} (w : World B D) (fits : (d : D) → Fits (w.len d) (w.clock d) (w.told d)) (m : Meanings) (lines : List (List ℕ)) (line : List ℕ) (reply : Reply) (result : Result (Unit {0}) Stop) (first old now : At B D) →
    EndsOrNot reply result → IsAnswered w line reply old now → Given old.held now.held (reply_text reply) → HasAnswered w m lines first old → LinesLead w m result lines (lines ++ line ∷ []) first now
leads_on w fits m lines line reply (Ok x) first old now ends one given answered = answers w fits m lines line reply first old now ends one given answered
leads_on w fits m lines line reply (Err stop) first old now ends one given answered = stops_behind w fits m lines line reply stop first old now ends one given answered

-- a run that couldn't go on behind some lines
pub stops_between : {B D : Type 0} (w : World B D) (m : Meanings) (lines others : List (List ℕ)) (first now : At B D) → HasAnswered w m lines first now → HasStopped w m NoMemory lines (lines ++ others) first now
stops_between w m lines others first now answered = record {
  items = answered.items;
  replies = answered.replies;
  written = answered.written;
  is_written = answered.is_written;
  begun = answered.begun;
  each = answered.each;
  are_items = AreFirstItems-asking lines others answered.items (AreFirstItems-all (asking lines) answered.items answered.are_items);
  are_answered = answered.are_answered;
  on = record { first = answered.replies; others = []; are = sym (append-nil answered.replies); few = omega arith; on = answered.on };
  replied = all_replied w m lines first now answered;
  writes = inl (answered.on, answered.writes);
  later = answered.later;
  plays = answered.plays;
  keeps = answered.keeps;
}

-- the same where nothing was begun
pub stops_unread : {B D : Type 0} (w : World B D) (m : Meanings) (lines others : List (List ℕ)) (first : At B D) (disk new : D) (x y : Session B) (held : Option (List ℕ)) (starts now : List ℕ) →
    new ≡ disk → y ≡ x → now ≡ starts → HasAnswered w m lines first (at disk x held starts) → HasStopped w m NoMemory lines (lines ++ others) first (at new y held now)
stops_unread {B} {D} w m lines others first disk new x y held starts now same_disk same_session same_starts answered =
    subst (λ (d : D). HasStopped w m NoMemory lines (lines ++ others) first (at d y held now)) (sym same_disk)
    (subst (λ (z : Session B). HasStopped w m NoMemory lines (lines ++ others) first (at disk z held now)) (sym same_session)
    (subst (λ (l : List ℕ). HasStopped w m NoMemory lines (lines ++ others) first (at disk x held l)) (sym same_starts)
    (stops_between w m lines others first (at disk x held starts) answered)))

-- ---- other lines that say the same
pub HasAnswered-as : {B D : Type 0} (w : World B D) (m : Meanings) (lines same : List (List ℕ)) (first now : At B D) → ((items : List Item) → AreItems (asking lines) items → AreItems (asking same) items) →
    HasAnswered w m lines first now → HasAnswered w m same first now
HasAnswered-as w m lines same first now say answered = record {
  items = answered.items;
  replies = answered.replies;
  written = answered.written;
  is_written = answered.is_written;
  begun = answered.begun;
  each = answered.each;
  are_items = say answered.items answered.are_items;
  are_answered = answered.are_answered;
  on = answered.on;
  writes = answered.writes;
  later = answered.later;
  plays = answered.plays;
  keeps = answered.keeps;
}

pub HasStopped-as : {B D : Type 0} (w : World B D) (m : Meanings) (stop : Stop) (early lines same : List (List ℕ)) (first now : At B D) → ((items : List Item) → AreFirstItems (asking lines) items → AreFirstItems (asking same) items) →
    HasStopped w m stop early lines first now → HasStopped w m stop early same first now
HasStopped-as w m stop early lines same first now say stopped = record {
  items = stopped.items;
  replies = stopped.replies;
  written = stopped.written;
  is_written = stopped.is_written;
  begun = stopped.begun;
  each = stopped.each;
  are_items = say stopped.items stopped.are_items;
  are_answered = stopped.are_answered;
  on = stopped.on;
  replied = stopped.replied;
  writes = stopped.writes;
  later = stopped.later;
  plays = stopped.plays;
  keeps = stopped.keeps;
}
