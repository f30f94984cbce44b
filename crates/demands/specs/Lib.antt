-- The definitions: the calls, document 01 over their history, the demands, an instant that is a block, lines left out, the wrong programs.
pub mod Calls
pub mod Paper
pub mod Demands
pub mod Rules
pub mod OwnFeed
pub mod LeftOut
pub mod Blocks
pub mod Programs
pub mod Examples
