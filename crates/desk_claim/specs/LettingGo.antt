-- What the desk lets go of, after a tick or block and when a reset acts, and the numbers that it returns: the engine's and the desk ledger's. Assumes nothing.
use Rattle.event.specs.declared.ReplayMode.{ReplayMode}
use Rattle.sequencer.specs.Resets.{reset_by}
use Rattle.realseq.specs.declared.SequencerBackend.{SequencerBackend}
use Rattle.realseq.specs.Handling.{returned_by}

-- ---- a reset acts

abbrev pub restarts : ReplayMode → SequencerBackend → SequencerBackend
restarts m d = record { sequencer = reset_by d.sequencer m; messages = d.messages; returned = returned_by m d.sequencer d.returned }
