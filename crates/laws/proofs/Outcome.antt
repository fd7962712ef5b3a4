-- What a run leaves: where its results stand; the demands, of whatever shows them and of a run's slices; the run of the first events alone; and that one packet a step would not do.
pub mod Results
pub mod Shorter
pub mod Shown
pub mod Run
pub mod OnePacket
