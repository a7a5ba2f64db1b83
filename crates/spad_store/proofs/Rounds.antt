-- Beats of three units, whose first works are apart: many of each at once are as many rounds of one beat of each.
use Rattle.std.proofs.Common.{◌≡◌, ℕ, suc, sym, subst, ap, ◌∙◌, List}
use Rattle.ven_base.specs.Store.{Store, store_size}
use Rattle.ven_base.specs.Job.{Job, jobs_beaten, store_beaten}
use Rattle.ven_base.specs.Beats.{jobs_after_beats, store_after_beats}
use Rattle.ven_base.specs.Exchange.{WorkKind, KeepToFootprints, HasMoreIn, FirstsApart, ManyPastOne}
use Rattle.ven_base.proofs.Exchange.{has_fewer, size_kept, size_after, more_after, apart_after, apart_after_other, many_past_one}

-- after a beat of each of two queues their first works are still apart
both_after : {A B P Q : Type 0} (kind : WorkKind A P) (other : WorkKind B Q) (keep : KeepToFootprints kind) (keep_other : KeepToFootprints other)
    (jobs : List (Job A P)) (others : List (Job B Q)) (count : ℕ) (store then : Store) → HasMoreIn kind (store_size store) (suc count) jobs → HasMoreIn other (store_size then) (suc count) others
    → FirstsApart kind other jobs others → FirstsApart kind other (jobs_beaten kind.course 0 jobs store) (jobs_beaten other.course 0 others then)
both_after kind other keep keep_other jobs others count store then more more_others apart =
    apart_after_other kind other keep keep_other (jobs_beaten kind.course 0 jobs store) others count then more_others (apart_after kind other keep keep_other jobs others count store more apart)

module _ {A B C P Q R : Type 0} (ka : WorkKind A P) (kb : WorkKind B Q) (kc : WorkKind C R) (keep_a : KeepToFootprints ka) (keep_b : KeepToFootprints kb) (keep_c : KeepToFootprints kc) where
  -- three queues, with cells and memory
  pub record Trio : Type 0 where
    pub a : List (Job A P)
    pub b : List (Job B Q)
    pub c : List (Job C R)
    pub store : Store

  -- so many beats of the first unit, then as many of the second, and of the third
  abbrev pub after_a : ℕ → Trio → Trio
  after_a count trio = record trio { a = jobs_after_beats ka.course count trio.a trio.store; store = store_after_beats ka.course count trio.a trio.store }

  abbrev pub after_b : ℕ → Trio → Trio
  after_b count trio = record trio { b = jobs_after_beats kb.course count trio.b trio.store; store = store_after_beats kb.course count trio.b trio.store }

  abbrev pub after_c : ℕ → Trio → Trio
  after_c count trio = record trio { c = jobs_after_beats kc.course count trio.c trio.store; store = store_after_beats kc.course count trio.c trio.store }

  abbrev pub many_rounds : ℕ → Trio → Trio
  many_rounds count trio = after_c count (after_b count (after_a count trio))

  -- one beat of each
  abbrev pub round : Trio → Trio
  round trio = many_rounds 1 trio

  -- each first job has more beats left than so many, and no two of the first works share what one of them writes
  pub record CanRun (count : ℕ) (trio : Trio) : Type 0 where
    pub more_a : HasMoreIn ka (store_size trio.store) count trio.a
    pub more_b : HasMoreIn kb (store_size trio.store) count trio.b
    pub more_c : HasMoreIn kc (store_size trio.store) count trio.c
    pub apart_ab : FirstsApart ka kb trio.a trio.b
    pub apart_ac : FirstsApart ka kc trio.a trio.c
    pub apart_bc : FirstsApart kb kc trio.b trio.c

  module _ (count : ℕ) (trio : Trio) (can : CanRun (suc count) trio) where
    -- cells and memory after one beat of the first, and of the second too
    abbrev s1 : Store
    s1 = store_beaten ka.course 0 trio.a trio.store

    abbrev s2 : Store
    s2 = store_beaten kb.course 0 trio.b s1

    size1 : store_size s1 ≡ store_size trio.store
    size1 = size_kept ka keep_a trio.a trio.store (has_fewer ka (store_size trio.store) (suc count) trio.a can.more_a)

    b_at_s1 : HasMoreIn kb (store_size s1) (suc count) trio.b
    b_at_s1 = subst (λ size. HasMoreIn kb size (suc count) trio.b) (sym size1) can.more_b

    size2 : store_size s2 ≡ store_size trio.store
    size2 = size_kept kb keep_b trio.b s1 (has_fewer kb (store_size s1) (suc count) trio.b b_at_s1) ∙ size1

    c_at_s2 : HasMoreIn kc (store_size s2) (suc count) trio.c
    c_at_s2 = subst (λ size. HasMoreIn kc size (suc count) trio.c) (sym size2) can.more_c

    -- the queues after one beat of each
    abbrev next_a : List (Job A P)
    next_a = jobs_beaten ka.course 0 trio.a trio.store

    abbrev next_b : List (Job B Q)
    next_b = jobs_beaten kb.course 0 trio.b s1

    abbrev next_c : List (Job C R)
    next_c = jobs_beaten kc.course 0 trio.c s2

    a_goes_on : HasMoreIn ka (store_size trio.store) count next_a
    a_goes_on = more_after ka keep_a count trio.a trio.store can.more_a

    b_goes_on : HasMoreIn kb (store_size trio.store) count next_b
    b_goes_on = subst (λ size. HasMoreIn kb size count next_b) size1 (more_after kb keep_b count trio.b s1 b_at_s1)

    a_in : (store : Store) → store_size store ≡ store_size trio.store → HasMoreIn ka (store_size store) count next_a
    a_in store same = subst (λ size. HasMoreIn ka size count next_a) (sym same) a_goes_on

    b_in : (store : Store) → store_size store ≡ store_size trio.store → HasMoreIn kb (store_size store) count next_b
    b_in store same = subst (λ size. HasMoreIn kb size count next_b) (sym same) b_goes_on

    b_first : (store : Store) → store_size store ≡ store_size trio.store → HasMoreIn kb (store_size store) 0 trio.b
    b_first store same = subst (λ size. HasMoreIn kb size 0 trio.b) (sym same) (has_fewer kb (store_size trio.store) (suc count) trio.b can.more_b)

    c_first : (store : Store) → store_size store ≡ store_size trio.store → HasMoreIn kc (store_size store) 0 trio.c
    c_first store same = subst (λ size. HasMoreIn kc size 0 trio.c) (sym same) (has_fewer kc (store_size trio.store) (suc count) trio.c can.more_c)

    -- so many more of the first unit
    abbrev u1 : Store
    u1 = store_after_beats ka.course count next_a s1

    size_u1 : store_size u1 ≡ store_size trio.store
    size_u1 = size_after ka keep_a count next_a s1 (a_in s1 size1) ∙ size1

    ab : FirstsApart ka kb next_a trio.b
    ab = apart_after ka kb keep_a keep_b trio.a trio.b count trio.store can.more_a can.apart_ab

    ac : FirstsApart ka kc next_a trio.c
    ac = apart_after ka kc keep_a keep_c trio.a trio.c count trio.store can.more_a can.apart_ac

    bc : FirstsApart kb kc next_b trio.c
    bc = apart_after kb kc keep_b keep_c trio.b trio.c count s1 b_at_s1 can.apart_bc

    a_past_b : ManyPastOne ka kb count next_a trio.b s1
    a_past_b = many_past_one ka kb keep_a keep_b count next_a trio.b s1 (a_in s1 size1) (b_first s1 size1) ab

    a_past_c : ManyPastOne ka kc count next_a trio.c s2
    a_past_c = many_past_one ka kc keep_a keep_c count next_a trio.c s2 (a_in s2 size2) (c_first s2 size2) ac

    -- and a beat of the second
    abbrev v1 : Store
    v1 = store_beaten kb.course 0 trio.b u1

    size_v1 : store_size v1 ≡ store_size trio.store
    size_v1 = size_kept kb keep_b trio.b u1 (b_first u1 size_u1) ∙ size_u1

    b_past_c : ManyPastOne kb kc count next_b trio.c v1
    b_past_c = many_past_one kb kc keep_b keep_c count next_b trio.c v1 (b_in v1 size_v1) (c_first v1 size_v1) bc

    -- what the first unit's many beats leave, after one of each, is what a beat of the second and of the third leave after its many
    t1 : store_after_beats ka.course count next_a (store_beaten kc.course 0 trio.c s2) ≡ store_beaten kc.course 0 trio.c v1
    t1 = a_past_c.stores ∙ ap (store_beaten kc.course 0 trio.c) a_past_b.stores

    a_same : jobs_after_beats ka.course count next_a (store_beaten kc.course 0 trio.c s2) ≡ jobs_after_beats ka.course count next_a s1
    a_same = a_past_c.same ∙ a_past_b.same

    b_next_same : jobs_beaten kb.course 0 trio.b u1 ≡ next_b
    b_next_same = a_past_b.same_others

    c_next_at_v1 : jobs_beaten kc.course 0 trio.c v1 ≡ next_c
    c_next_at_v1 = ap (jobs_beaten kc.course 0 trio.c) (sym a_past_b.stores) ∙ a_past_c.same_others

    abbrev u2 : Store
    u2 = store_after_beats kb.course count next_b v1

    c_next_same : jobs_beaten kc.course 0 trio.c u2 ≡ next_c
    c_next_same = b_past_c.same_others ∙ c_next_at_v1

    -- one of each and then many of each are one more of each
    abbrev many_of_each : Trio
    many_of_each = record {
      a = jobs_after_beats ka.course count next_a s1;
      b = jobs_after_beats kb.course count next_b v1;
      c = jobs_after_beats kc.course count next_c (store_beaten kc.course 0 trio.c u2);
      store = store_after_beats kc.course count next_c (store_beaten kc.course 0 trio.c u2);
    }

    left : many_rounds count (round trio) ≡ many_of_each
    left =
        let w = store_beaten kc.course 0 trio.c v1 in
        ap (λ s. after_c count (after_b count (record { a = jobs_after_beats ka.course count next_a (store_beaten kc.course 0 trio.c s2); b = next_b; c = next_c; store = s }))) t1
        ∙ ap (λ a. after_c count (after_b count (record { a = a; b = next_b; c = next_c; store = w }))) a_same
        ∙ ap (λ s. after_c count (record { a = jobs_after_beats ka.course count next_a s1; b = jobs_after_beats kb.course count next_b w; c = next_c; store = s })) b_past_c.stores
        ∙ ap (λ b. after_c count (record { a = jobs_after_beats ka.course count next_a s1; b = b; c = next_c; store = store_beaten kc.course 0 trio.c u2 })) b_past_c.same

    right : many_rounds (suc count) trio ≡ many_of_each
    right =
        ap (λ b. after_c (suc count) (record { a = jobs_after_beats ka.course count next_a s1; b = jobs_after_beats kb.course count b v1; c = trio.c; store = store_after_beats kb.course count b v1 })) b_next_same
        ∙ ap (λ c. record { a = jobs_after_beats ka.course count next_a s1; b = jobs_after_beats kb.course count next_b v1; c = jobs_after_beats kc.course count c (store_beaten kc.course 0 trio.c u2); store = store_after_beats kc.course count c (store_beaten kc.course 0 trio.c u2) }) c_next_same

    pub one_more_round : many_rounds (suc count) trio ≡ many_rounds count (round trio)
    one_more_round = right ∙ sym left

    -- and after one of each there may be as many more
    pub can_go_on : CanRun count (round trio)
    can_go_on =
        let s3 = store_beaten kc.course 0 trio.c s2 in
        let size3 : store_size s3 ≡ store_size trio.store = size_kept kc keep_c trio.c s2 (has_fewer kc (store_size s2) (suc count) trio.c c_at_s2) ∙ size2 in
        let c_goes_on = more_after kc keep_c count trio.c s2 c_at_s2 in
        record {
          more_a = a_in s3 size3;
          more_b = b_in s3 size3;
          more_c = subst (λ size. HasMoreIn kc size count next_c) (size2 ∙ sym size3) c_goes_on;
          apart_ab = both_after ka kb keep_a keep_b trio.a trio.b count trio.store s1 can.more_a b_at_s1 can.apart_ab;
          apart_ac = both_after ka kc keep_a keep_c trio.a trio.c count trio.store s2 can.more_a c_at_s2 can.apart_ac;
          apart_bc = both_after kb kc keep_b keep_c trio.b trio.c count s1 s2 b_at_s1 c_at_s2 can.apart_bc;
        }
