-- What this crate's proofs take from definitions and from other crates.
pub use Rattle.acl.specs.declared.user_id.UserId.{UserId}
pub use Rattle.attach_proto.specs.declared.why.Why.{Why}
pub use Rattle.attach_proto.specs.declared.why.Why.TheVariants.{Fault}
pub use Rattle.server_connections.specs.Changing.{changed}
pub use Rattle.server_connections.specs.declared.connections.Connections.{Connections}
pub use Rattle.server_connections.specs.declared.peer.Role.{Role}
pub use Rattle.server_loop.specs.Awaiting.{AnyAwaits, NoneAwaits, OneAwaits}
pub use Rattle.server_loop.specs.Beginning.{Dismisses, Tells, TurnsAway}
pub use Rattle.server_loop.specs.Drawing.{DrawsFrom}
pub use Rattle.server_loop.specs.Handing.{Hands, HandsAll, Sent}
pub use Rattle.server_loop.specs.Leaving.{Expels, IfBool, TellsLeaving}
pub use Rattle.server_loop.specs.Serving.{Serves, ServesOnce, Steps}
pub use Rattle.server_loop.specs.Submitting.{State, Submits, peer_at, state_of, with_peer}
pub use Rattle.server_loop.specs.Trying.{Stay, cost_of}
pub use Rattle.server_loop.specs.Typing.{FaultsIf, MustWait}
pub use Rattle.server_loop.specs.Walking.{Repeats, VisitsAll}
pub use Rattle.server_loop.specs.Writing.{DropsAfter, DropsTyped, Writes}
pub use Rattle.server_loop.specs.declared.own.Loop.{Loop}
pub use Rattle.server_seat.specs.declared.news.Guest.{Guest}
pub use Rattle.server_seat.specs.declared.seat.SeatFault.{SeatFault}
pub use Rattle.server_steps.specs.Asking.{is_due_at}
pub use Rattle.server_steps.specs.declared.progress.Progress.TheVariants.{Done}
pub use Rattle.server_users.specs.declared.user.Shown.{Shown}
pub use Rattle.session.specs.Trace.{EventValue, happening}
pub use Rattle.slab.specs.Slab.{get}
pub use Rattle.std.proofs.Common.{Bool, Err, List, None, Ok, Option, Some, ap, arith, drop, false, inl, inr, is_some}
pub use Rattle.std.proofs.Common.{min, not, refl, rules, subst, sym, true, ℕ, ◌++◌, ◌+◌, ◌-◌, ◌/◌, ◌<◌, ◌||◌, ◌∙◌, ◌≡◌}
pub use Rattle.std.proofs.lemmas.Bool.{false≢true}
pub use Rattle.std.specs.Duration.{as_nanos}
pub use Rattle.std.specs.Prelude.{IfSome, codes}
