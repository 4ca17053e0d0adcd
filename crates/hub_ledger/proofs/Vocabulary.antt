-- What this crate's proofs take from definitions and from other crates.
pub use Rattle.acl.specs.History.{History, followed_by}
pub use Rattle.acl.specs.declared.leaders.Edition.{Edition}
pub use Rattle.acl.specs.declared.user_id.UserId.{UserId}
pub use Rattle.hub_check.proofs.Judged.{bad_illegal}
pub use Rattle.hub_check.specs.Judges.{HasJudged}
pub use Rattle.hub_ledger.specs.Closing.{AreOf, IsFirstWrong, IsOf, IsTold, before, receipts_of, times}
pub use Rattle.hub_ledger.specs.Rising.{AllBelow, Rise}
pub use Rattle.hub_ledger.specs.Routing.{Sent, marked, views}
pub use Rattle.hub_ledger.specs.Seats.{AreNumbered, IsReceived, NoneAsks, Sitting, StandsLast, Told, stepped}
pub use Rattle.hub_ledger.specs.States.{IsKept, StandsFor, State, Stood, state_of}
pub use Rattle.hub_peers.specs.Peers.{AreSeats, HasPeer, Owners, owners_of, seat_of, with_peers}
pub use Rattle.hub_record.specs.Growing.{trail_in, with_entries, written}
pub use Rattle.hub_record.specs.Receipts.{Receipt}
pub use Rattle.hub_trail.specs.Filing.{filed, kept_of}
pub use Rattle.hub_trail.specs.Judging.{AreGood, AreJudgeable, IsBadAt, IsIllegalAt}
pub use Rattle.hub_trail.specs.Legal.{AreLegal, IsLegal}
pub use Rattle.hub_trail.specs.Trails.{Ending, Entry, Trail}
pub use Rattle.hub_trail.specs.declared.kept.Kept.{Kept}
pub use Rattle.rights.specs.Acts.{CanFollow}
pub use Rattle.session.proofs.Lists.{all_append, all_weaken, equal}
pub use Rattle.session.specs.Run.{tables_of}
pub use Rattle.session.specs.Stands.{entry_of, wants_memory}
pub use Rattle.session.specs.Trace.{EventValue, Reply, Trace, begun, happening}
pub use Rattle.session.specs.event.Effect.{Effect}
pub use Rattle.session.specs.event.Effect.TheVariants.{Deliver, Gone, Input, Say, Size}
pub use Rattle.session.specs.refusal.Verdict.{Verdict}
pub use Rattle.session.specs.session.Session.{Session}
pub use Rattle.std.proofs.Common.{Bool, Err, List, None, Ok, Option, Some, [], add-one, ap, append_assoc, arith, cond}
pub use Rattle.std.proofs.Common.{drop, false, get_or, inl, inr, length, length-append, map, refl, set, subst, suc, sym}
pub use Rattle.std.proofs.Common.{take, true, zero, ℕ, ◌++◌, ◌+◌, ◌-◌, ◌<◌, ◌∙◌, ◌∷◌, ◌≡◌, ◌≢◌, ◌≤◌}
pub use Rattle.std.proofs.lemmas.Bool.Decides.{nat_tests}
pub use Rattle.std.proofs.lemmas.List.{append-nil, length-map, map-set, map_push, take_all, take_more}
pub use Rattle.std.proofs.lemmas.List.Elements.{filter-append}
pub use Rattle.std.proofs.lemmas.Option.{get_or_from_slice_get, slice_get-get_or, slice_get_within}
pub use Rattle.std.specs.List.{AllByRecursion, list_any}
pub use Rattle.std.specs.Prelude.{IfOk, IsSome, Result, if◌then◌else◌, is_some, nat_lt, slice_get, vec_capacity}
pub use Rattle.std.specs.Prelude.{vec_len, ◌&&◌, ◌==◌, ◌||◌, ◌↔◌, ◌⊎◌}
pub use Rattle.std.specs.Result.{result_ok}
pub use Rattle.std.specs.Vec.Iter.{into_iter_items}
pub use Rattle.std.specs.declared.alloc.Global.{Global}
pub use Rattle.std.specs.declared.vec.Vec.{Vec}
