use Rattle.std.proofs.Common.{rules, List, sym, arith, subst, true, ◌<◌, IsTrue, nat_le, ◌||◌, ◌+◌, ◌-◌, ◌^◌, Bool, cond, ◌==◌, ◌≡◌, ℕ, length, take, drop, ◌++◌, reverse, ◌∙◌, ap}
use Rattle.std.proofs.lemmas.List.{take_at}
use Rattle.std.specs.List.{list_any}
use Rattle.sb_bytes.specs.Bytes.{splice}
use Rattle.sb_disk.specs.Disk.{after_write, after_idle}
use Rattle.sb_memdisk.specs.declared.past.Entry.{Entry}
use Rattle.sb_memdisk.specs.State.{State}
use Rattle.sb_memdisk.specs.Past.{story_after, IsStored}
use Rattle.sb_memdisk.specs.Failing.{clock_of, is_named, has_stopped, is_failing_on_clock, torn_len, stored_len}
use Rattle.sb_memdisk.proofs.PastLemmas.{story_of-stored, torn-WriteFault, failing_at, cond_some}
use Rattle.sb_memdisk.proofs.disk.MemDiskDisk.write_at.Goals as goal
use Rattle.sb_memdisk.proofs.disk.MemDiskDisk.write_at.Goals.{else-fails-via-then-fails+else-kept-eq0, else-fails-via-else-fails}

-- what is told after a write that was stored in part
told : (c : goal.After-fault-then-fails-2) → story_after (reverse c.store.new.past.items) (take c.self.inside.bytes.len (c.store.new.bytes ++ drop (length c.store.new.bytes) c.self.inside.bytes.items))
    ≡ after_write c.args.at (length c.args.bytes.now) (splice c.args.at (take c.stored-kept.result c.args.bytes.now) c.args.self.now.story.now.reads) c.args.self.now.story
told c =
    let past : c.copied.new.past.items ≡ c.self.inside.past.items = c.copied.ensures.past in
    let stored = subst (λ (l : List Entry). IsStored c.self.inside.lull c.args.at c.args.bytes.now c.stored-kept.result c.deref_mut.result.now c.store.new.bytes l c.store.new.past.items) past c.store.ensures.stored in
    story_of-stored c.self.inside.lull c.args.at c.args.bytes.now c.stored-kept.result _ c.store.new.bytes c.self.inside.bytes.items _ c.self.inside.past.items c.store.new.past.items c.args.self.now.story
    stored (search rules) (take_at c.store.new.bytes (drop (length c.store.new.bytes) c.self.inside.bytes.items) c.self.inside.bytes.len (search rules)) (ap (λ (v : State). v.story) c.self.view_is) c.self.invariant.reads

-- so many bytes are stored as the plan says
as_planned : (c : goal.After-fault-then-fails-2) → c.stored-kept.result ≡ stored_len c.args.self.now (length c.args.bytes.now)
as_planned c =
    let value : c.stored-kept.result ≡ cond c.contains-named.result 0 (torn_len c.self.inside.stop c.self.inside.clock (length c.args.bytes.now)) = search rules in
    let named : c.contains-named.result ≡ list_any (λ call. call == c.self.inside.calls) c.self.inside.fails.items = search rules in
    value
    ∙ ap (λ (b : Bool). cond b 0 (torn_len c.self.inside.stop c.self.inside.clock (length c.args.bytes.now))) named
    ∙ ap (λ (n : ℕ). cond (list_any (λ call. call == c.self.inside.calls) c.self.inside.fails.items) 0 (torn_len c.self.inside.stop n (length c.args.bytes.now))) c.self.invariant.clock
    ∙ ap (λ (v : State). stored_len v (length c.args.bytes.now)) c.self.view_is

-- what the disk tells at the end
story_is : (c : goal.After-fault-then-fails-2) → c.fault-then-fails-2.new.self.story ≡ after_write c.args.at (length c.args.bytes.now) (splice c.args.at (take c.stored-kept.result c.args.bytes.now) c.args.self.now.story.now.reads) c.args.self.now.story
story_is c = ap (λ (v : State). v.story) c.fault-then-fails-2.ensures.counted ∙ told c

pub returns-then-fails-2-clause-err : goal.returns-then-fails-2-clause-err
returns-then-fails-2-clause-err c = torn-WriteFault c.args.at c.stored-kept.result c.args.bytes.now c.args.self.now.story _ c.requires (story_is c)

-- the write was to fail
planned : (c : goal.After-fault-then-fails-2) → IsTrue (is_failing_on_clock c.args.self.now)
planned c =
    let named : c.contains-named.result ≡ list_any (λ call. call == c.self.inside.calls) c.self.inside.fails.items = search rules in
    let failing : (c.contains-named.result || has_stopped c.self.inside.stop (c.self.inside.clock + 1)) ≡ true = search rules in
    failing_at (is_named c.args.self.now) (has_stopped c.args.self.now.stop (clock_of c.args.self.now + 1)) (nat_le (2 ^ 64 - 1) (clock_of c.args.self.now))
    (subst (λ (v : State). (is_named v || has_stopped v.stop (clock_of v + 1)) ≡ true) c.self.view_is
    (subst (λ (n : ℕ). (list_any (λ call. call == c.self.inside.calls) c.self.inside.fails.items || has_stopped c.self.inside.stop (n + 1)) ≡ true) c.self.invariant.clock
    (subst (λ (b : Bool). (b || has_stopped c.self.inside.stop (c.self.inside.clock + 1)) ≡ true) named failing)))

-- some bytes of it are stored
some : (c : goal.After-fault-then-fails-2) → 0 < stored_len c.args.self.now (length c.args.bytes.now)
some c = subst (λ (n : ℕ). 0 < n) (as_planned c) (elim c.else-fails.branch as (λ _. 0 < c.stored-kept.result) [
  | else-fails-via-then-fails+else-kept-eq0 w ↦ omega arith
  | else-fails-via-else-fails w ↦ absurd (cc (w.if-fails.false, c.if-fails-2.true))
])

pub returns-then-fails-2-clause-plan : goal.returns-then-fails-2-clause-plan
returns-then-fails-2-clause-plan c = record {
  counted = search rules;
  fails = λ failing. search rules;
  planned = λ failing in_time. story_is c
      ∙ ap (λ (n : ℕ). after_write c.args.at (length c.args.bytes.now) (splice c.args.at (take n c.args.bytes.now) c.args.self.now.story.now.reads) c.args.self.now.story) (as_planned c)
      ∙ sym (cond_some (stored_len c.args.self.now (length c.args.bytes.now)) (after_idle c.args.self.now.story) _ (some c));
  wanting = λ not. absurd (cc (planned c, not));
}
