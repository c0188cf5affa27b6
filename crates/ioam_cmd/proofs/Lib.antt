mod PromiseLaws
