-- What threads share may be lent to them: proved with what they share, and handed on here.
pub use Rattle.loop_shared.proofs.Crosses.{shared_sync, proxy_sync, front_sync}
