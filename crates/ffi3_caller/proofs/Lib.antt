mod Loading
mod Results
mod Calling
mod ByStub
mod Pushing
mod Framing
