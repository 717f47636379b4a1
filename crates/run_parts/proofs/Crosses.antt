-- What lends a proxy to threads may be shared: proved with the gates, and handed on here.
pub use Rattle.run_gate.proofs.Crosses.{site_sync}
