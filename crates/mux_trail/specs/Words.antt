-- The words of other crates that clauses of this one cite, from one place.
pub use Rattle.std.specs.Io.Buffered.{reader_remaining}
pub use Rattle.std.specs.List.{flat_map}
pub use Rattle.std.specs.String.{string_bytes}
pub use Rattle.acl.specs.Names.{named_by}
pub use Rattle.acl.specs.declared.leaders.Edition.{Edition}
pub use Rattle.acl.specs.declared.user_id.UserId.{UserId}
pub use Rattle.clap.specs.Words.{found_of, kind_of}
pub use Rattle.clap.specs.declared.error.kind.ErrorKind.{ErrorKind}
pub use Rattle.clap.specs.declared.parser.matches.Found.{Found}
pub use Rattle.hub.specs.Following.{StandsAfter}
pub use Rattle.trail_confined.specs.Confining.{circle}
pub use Rattle.trail_files.specs.Beginning.{LastOf}
pub use Rattle.trail_lines.specs.Entries.{Said, said}
pub use Rattle.trail_lines.specs.Reading.{entries_in}
pub use Rattle.trail_log.specs.Choosing.{giver}
pub use Rattle.trail_log.specs.Logging.{HasLogged}
pub use Rattle.trail_log.specs.Naming.{names_with}
pub use Rattle.trail_rights.specs.Marks.{acts_in, marked_after}
pub use Rattle.trail_rights.specs.Watching.{HasWatched}
